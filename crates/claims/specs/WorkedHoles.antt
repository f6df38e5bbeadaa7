-- Three transfers with a fixed side that meet every premise of specs/KeyHole.antt: a queue drained, a block pushed to a queue, and
-- a queue passed to another.
use Rattle.std.specs.Prelude.{◌≡◌, Bool, true, false, List, [], ◌∷◌, ◌++◌, ℕ, zero, suc}
use Rattle.state.specs.declared.engine.Engine.{Engine}
use Rattle.state.specs.declared.engine.Transfer.{Transfer}
use Rattle.state.specs.declared.engine.Phase.{Phase}
use Rattle.state.specs.declared.engine.Phase.TheVariants.{Idle, Fetch}
use Rattle.state.specs.State.{with_control, with_simple}
use Rattle.claims.specs.Transfers.{Act, step, write, after, bursts, steps, Completes, left}
use Rattle.claims.specs.KeyHole.{AloneAtWord, AloneFromWord}
use Rattle.claims.specs.Worked.{rising, engine, elsewhere, joins, descriptor}

-- the engine of specs/Worked.antt, with these key hole bits and with SA and DA
abbrev pub fixed_engine : Bool → Phase → Bool → Bool → ℕ → ℕ → Engine
fixed_engine chain phase reads writes sa da =
    with_simple (with_control (engine chain phase) (record { sgmode = chain; keyholeread = reads; keyholewrite = writes; iocen = true; erren = true }))
    (record { sa = sa; da = da; btt = 0 })

-- a word, n times
abbrev pub again : ℕ → List ℕ → List ℕ
again zero word = []
again (suc n) word = word ++ again n word

-- ---- simple mode: 68 bytes from the word at 8 to 101

abbrev pub drain_memory : List ℕ
drain_memory = rising 180 0

abbrev pub drain_engine : Engine
drain_engine = fixed_engine false Idle true false 8 101

abbrev pub drain_transfer : Transfer
drain_transfer = record { source = 8; destination = 101; total = 68; moved = 0 }

abbrev pub drain_start : Act
drain_start = write 0x28 68

-- between the bursts a write that would give up the key hole is refused
abbrev pub drain_rest : List Act
drain_rest =
    let begun = after drain_engine (drain_start ∷ []) in
    step drain_memory elsewhere ∷ write 0x00 0x5000 ∷ step (left drain_memory begun (step drain_memory elsewhere ∷ [])) [] ∷ []

-- the second burst begins in the middle of the source's word: the bytes count from the transfer's start
pub record DrainWorked : Type 0 where
  pub completes : Completes drain_engine drain_transfer drain_start drain_rest
  pub alone : AloneFromWord drain_engine drain_transfer drain_memory (drain_start ∷ drain_rest)
  pub moves : bursts drain_engine (drain_start ∷ drain_rest) ≡ joins (record { start = 101; bytes = 63 }) (record { start = 164; bytes = 5 })
  pub takes : steps (drain_start ∷ drain_rest) ≡ 2
  pub fills : left drain_memory drain_engine (drain_start ∷ drain_rest) ≡ rising 101 0 ++ again 17 (rising 4 8) ++ rising 11 169

-- ---- chain mode: the descriptor at 0 moves 68 bytes from 65 to the word at 180

abbrev pub push_memory : List ℕ
push_memory = descriptor 64 65 180 68 0 ++ rising 168 32

abbrev pub push_engine : Engine
push_engine = fixed_engine true Fetch false true 0 0

abbrev pub push_transfer : Transfer
push_transfer = record { source = 65; destination = 180; total = 68; moved = 0 }

abbrev pub push_start : Act
push_start = step push_memory elsewhere

abbrev pub push_first : List ℕ
push_first = left push_memory push_engine (push_start ∷ step push_memory [] ∷ [])

abbrev pub push_second : List ℕ
push_second = left push_memory push_engine (push_start ∷ step push_memory [] ∷ step push_first [] ∷ [])

abbrev pub push_rest : List Act
push_rest = step push_memory [] ∷ step push_first [] ∷ step push_second [] ∷ []

-- the word holds bytes 129 to 132, the last four of the source
pub record PushWorked : Type 0 where
  pub completes : Completes push_engine push_transfer push_start push_rest
  pub alone : AloneAtWord push_engine push_transfer push_memory (push_start ∷ push_rest)
  pub moves : bursts push_engine (push_start ∷ push_rest) ≡ joins (record { start = 180; bytes = 64 }) (record { start = 180; bytes = 4 })
  pub takes : steps (push_start ∷ push_rest) ≡ 4
  pub keeps : left push_memory push_engine (push_start ∷ push_rest)
      ≡ descriptor 64 65 180 68 0x80000000 ++ rising 148 32 ++ rising 4 129 ++ rising 16 184

-- ---- simple mode: 8 bytes from the word at 8 to the word at 40

abbrev pub pass_memory : List ℕ
pass_memory = rising 60 0

abbrev pub pass_engine : Engine
pass_engine = fixed_engine false Idle true true 8 40

abbrev pub pass_transfer : Transfer
pass_transfer = record { source = 8; destination = 40; total = 8; moved = 0 }

abbrev pub pass_start : Act
pass_start = write 0x28 8

abbrev pub pass_rest : List Act
pass_rest = step pass_memory [] ∷ []

pub record PassWorked : Type 0 where
  pub completes : Completes pass_engine pass_transfer pass_start pass_rest
  pub alone : AloneAtWord pass_engine pass_transfer pass_memory (pass_start ∷ pass_rest)
  pub moves : bursts pass_engine (pass_start ∷ pass_rest) ≡ record { start = 40; bytes = 8 } ∷ []
  pub takes : steps (pass_start ∷ pass_rest) ≡ 1
  pub keeps : left pass_memory pass_engine (pass_start ∷ pass_rest) ≡ rising 40 0 ++ rising 4 8 ++ rising 16 44
