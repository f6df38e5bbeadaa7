-- Two transfers that meet every premise of the claims, one in each mode, with register accesses between their steps.
use Rattle.std.specs.Prelude.{◌≡◌, Bool, true, false, List, [], ◌∷◌, ◌++◌, ℕ, zero, suc, replicate, take}
use Rattle.kit.specs.Word.{bytes_of}
use Rattle.cut.specs.declared.Burst.{Burst}
use Rattle.memory.specs.declared.window.Window.{Window}
use Rattle.state.specs.declared.engine.Engine.{Engine}
use Rattle.state.specs.declared.engine.Transfer.{Transfer}
use Rattle.state.specs.declared.engine.ErrorBit.TheVariants.{Clear}
use Rattle.state.specs.declared.engine.Phase.{Phase}
use Rattle.state.specs.declared.engine.Phase.TheVariants.{Idle, Fetch}
use Rattle.claims.specs.Transfers.{Act, step, write, read, after, bursts, steps, Completes, Alone, left}

-- every premise is met, and these are the bursts and the steps
pub record Worked (s : Engine) (t : Transfer) (m : List ℕ) (first : Act) (rest : List Act) (moved : List Burst) (n : ℕ) : Type 0 where
  pub completes : Completes s t first rest
  pub alone : Alone s t m (first ∷ rest)
  pub moves : bursts s (first ∷ rest) ≡ moved
  pub takes : steps (first ∷ rest) ≡ n

-- n bytes that count up from a
abbrev pub rising : ℕ → ℕ → List ℕ
rising zero a = []
rising (suc n) a = a ∷ rising n (suc a)

-- width 4, 16 beats, both sides incrementing, no error, IOC_Irq still set from an earlier transfer
abbrev pub engine : Bool → Phase → Engine
engine chain phase = record {
  settings = record { width = 4; beats = 16 };
  control = record { sgmode = chain; keyholeread = false; keyholewrite = false; iocen = true; erren = true };
  status = record { fault = Clear; ioc = true; err = false };
  pointers = record { current = 0; tail = 0; next = 0; heldnext = 0 };
  simple = record { sa = 3; da = 100; btt = 0 };
  phase = phase;
}

-- a sick window that no transfer here touches
abbrev pub elsewhere : List Window
elsewhere = record { start = 80; length = 9 } ∷ []

abbrev pub joins : Burst → Burst → List Burst
joins a b = a ∷ b ∷ []

-- ---- simple mode: 65 bytes from 3 to 100

abbrev pub simple_memory : List ℕ
simple_memory = rising 170 0

abbrev pub simple_engine : Engine
simple_engine = engine false Idle

abbrev pub simple_transfer : Transfer
simple_transfer = record { source = 3; destination = 100; total = 65; moved = 0 }

-- BTT is written
abbrev pub simple_start : Act
simple_start = write 0x28 65

-- between the bursts the interrupt is cleared, CDMACR written (Err_IrqEn alone), CDMASR read, and a write of DA refused
abbrev pub simple_rest : List Act
simple_rest =
    let begun = after simple_engine (simple_start ∷ []) in
    step simple_memory elsewhere ∷ write 0x04 0x1000 ∷ write 0x00 0x4000 ∷ read 0x04 ∷ write 0x20 7 ∷ step (left simple_memory begun (step simple_memory elsewhere ∷ [])) [] ∷ []

abbrev pub SimpleWorked : Type 0
SimpleWorked =
    Worked simple_engine simple_transfer simple_memory simple_start simple_rest (joins (record { start = 100; bytes = 64 }) (record { start = 164; bytes = 1 })) 2

-- IOC_Irq stood before that write, not after it, and stands again at the end
abbrev pub SimpleCleared : Type 0
SimpleCleared =
    ((after simple_engine (simple_start ∷ take 1 simple_rest)).status.ioc ≡ true)
    × ((after simple_engine (simple_start ∷ take 2 simple_rest)).status.ioc ≡ false)
    × ((after simple_engine (simple_start ∷ simple_rest)).status.ioc ≡ true)

-- IOC_IrqEn stood before the write of CDMACR and not after it; the transfer goes on
abbrev pub SimpleControlled : Type 0
SimpleControlled =
    ((after simple_engine (simple_start ∷ take 2 simple_rest)).control.iocen ≡ true)
    × ((after simple_engine (simple_start ∷ take 3 simple_rest)).control.iocen ≡ false)
    × ((after simple_engine (simple_start ∷ simple_rest)).phase ≡ Idle)

-- ---- chain mode: the descriptor at 0 moves 65 bytes from 89 to 163

-- a descriptor's words: next, source, destination, control and status, each with what lies between
abbrev pub descriptor : ℕ → ℕ → ℕ → ℕ → ℕ → List ℕ
descriptor next source destination count status =
    bytes_of next ++ replicate 4 0 ++ bytes_of source ++ replicate 4 0 ++ bytes_of destination ++ replicate 4 0 ++ bytes_of count ++ bytes_of status

abbrev pub chain_memory : List ℕ
chain_memory = descriptor 64 89 163 65 0 ++ rising 200 32

abbrev pub chain_engine : Engine
chain_engine = engine true Fetch

abbrev pub chain_transfer : Transfer
chain_transfer = record { source = 89; destination = 163; total = 65; moved = 0 }

abbrev pub chain_start : Act
chain_start = step chain_memory elsewhere

-- what each of the two bursts left
abbrev pub first_left : List ℕ
first_left = left chain_memory chain_engine (chain_start ∷ step chain_memory [] ∷ [])

abbrev pub second_left : List ℕ
second_left = left chain_memory chain_engine (chain_start ∷ step chain_memory [] ∷ step first_left elsewhere ∷ [])

-- between the steps the tail is replaced, so that the engine goes on to the next descriptor, and the interrupt is cleared
abbrev pub chain_rest : List Act
chain_rest =
    step chain_memory [] ∷ write 0x10 64 ∷ step first_left elsewhere ∷ read 0x08 ∷ write 0x04 0x1000 ∷ step second_left elsewhere ∷ []

abbrev pub ChainWorked : Type 0
ChainWorked =
    Worked chain_engine chain_transfer chain_memory chain_start chain_rest (joins (record { start = 163; bytes = 61 }) (record { start = 224; bytes = 4 })) 4

-- by the new tail the engine goes on to fetch the next descriptor; by the old one it had been idle
abbrev pub ChainReplaced : Type 0
ChainReplaced = ((after chain_engine (chain_start ∷ chain_rest)).phase ≡ Fetch) × ((after chain_engine (chain_start ∷ chain_rest)).pointers.current ≡ 64)
