-- Demand 3 for transfers: covered, no shorter, copied, and in how many steps. RULES.md, "Descriptor and steps": a
-- transfer starts at its fetch or its BTT write and ends with its update, or in simple mode with its last burst; between,
-- only steps and register accesses change its state.
use Rattle.std.specs.Prelude.{◌≡◌, ◌⊎◌, ℕ, suc, ◌+◌, ◌≤◌, ◌<◌, Bool, true, false, List, [], ◌∷◌, ◌++◌, length, get_or, eqb}
use Rattle.kit.specs.Choice.{both}
use Rattle.kit.specs.Settings.{legal_of}
use Rattle.kit.specs.Word.{word_at}
use Rattle.cut.specs.declared.Burst.{Burst}
use Rattle.cut.specs.Cut.{cut}
use Rattle.cut.specs.Legal.{AllLegal, Tiles, Covers}
use Rattle.memory.specs.declared.window.Window.{Window}
use Rattle.sides.specs.Sides.{Apart}
use Rattle.state.specs.declared.engine.Engine.{Engine}
use Rattle.state.specs.declared.engine.Transfer.{Transfer}
use Rattle.state.specs.declared.engine.Outcome.{Outcome}
use Rattle.state.specs.declared.engine.Phase.{Phase}
use Rattle.state.specs.declared.engine.Phase.TheVariants.{Idle, Fetch, Move, Update}
use Rattle.state.specs.State.{error_set_of, well_formed_of}
use Rattle.state.specs.Bits.{bit}
use Rattle.state.specs.Descriptor.{count_of, descriptor_at}
use Rattle.registers.specs.Write.{write_of}
use Rattle.steps.specs.declared.event.Event.{Event}
use Rattle.steps.specs.declared.event.Event.TheVariants.{None, Fetch as Fetched, Move as Moved, Fault, Update as Updated, Halt}
use Rattle.steps.specs.Step.{status_place, advance_of}

-- ---- what may happen in a transfer

-- a step, on the memory and the windows lent to it (a refused call is no step); a register write of any value to any
-- offset; a register read
pub data Act : Type 0 where
  step : List ℕ → List Window → Act
  write : ℕ → ℕ → Act
  read : ℕ → Act

-- the state after an act; a read changes nothing
abbrev pub act : Engine → Act → Engine
act s (step m windows) = (advance_of s m windows).engine
act s (write offset value) = (write_of s offset value).engine
act s (read offset) = s

-- the state after some acts
abbrev pub after : Engine → List Act → Engine
after s [] = s
after s (a ∷ more) = after (act s a) more

-- a reset: CDMACR written with bit 2 set
abbrev pub resets : Act → Bool
resets (step m windows) = false
resets (write offset value) = both (eqb offset 0x00) (bit 2 value)
resets (read offset) = false

-- the bursts of a step's event: one where it moved
abbrev pub bursts_of : Event → List Burst
bursts_of None = []
bursts_of (Fetched current) = []
bursts_of (Moved b) = b ∷ []
bursts_of (Fault place bit) = []
bursts_of (Updated current word) = []
bursts_of (Halt current bit) = []

-- the bursts that some acts moved, in order
abbrev pub bursts : Engine → List Act → List Burst
bursts s [] = []
bursts s (step m windows ∷ more) = bursts_of (advance_of s m windows).event ++ bursts (act s (step m windows)) more
bursts s (write offset value ∷ more) = bursts (act s (write offset value)) more
bursts s (read offset ∷ more) = bursts s more

-- how many of the acts are steps
abbrev pub steps : List Act → ℕ
steps [] = 0
steps (step m windows ∷ more) = suc (steps more)
steps (write offset value ∷ more) = steps more
steps (read offset ∷ more) = steps more

-- ---- a transfer

-- in the midst of a transfer: moving, or waiting for the update
abbrev pub in_transfer : Phase → Bool
in_transfer Idle = false
in_transfer Fetch = false
in_transfer (Move t) = true
in_transfer (Update outcome) = true

-- acts that lead from the midst of a transfer just to its end, none of them a reset
abbrev pub Runs : Engine → List Act → Type 0
Runs s [] = in_transfer s.phase ≡ false
Runs s (a ∷ more) = (in_transfer s.phase ≡ true) × (resets a ≡ false) × Runs (act s a) more

-- the transfer t, from its start to its end without error or reset: its first act takes a well-formed engine that is in no
-- transfer to the move of t
pub record Completes (s : Engine) (t : Transfer) (first : Act) (rest : List Act) : Type 0 where
  pub legal : legal_of s.settings ≡ true
  pub well : well_formed_of s ≡ true
  pub before : in_transfer s.phase ≡ false
  pub starts : (act s first).phase ≡ Move t
  pub runs : Runs (act s first) rest
  pub good : error_set_of (after (act s first) rest).status.fault ≡ false

-- ---- claim 0: start

-- such a first act is the fetch of the current descriptor in chain mode, or a write of BTT in simple mode; t is what the
-- descriptor's words, or SA, DA and the value written, say, and nothing of it is moved yet
pub data Start (s : Engine) (t : Transfer) : Act → Type 0 where
  fetch : (m : List ℕ) (windows : List Window) → s.phase ≡ Fetch → s.control.sgmode ≡ true
      → (advance_of s m windows).event ≡ Fetched s.pointers.current
      → t ≡ record {
        source = (descriptor_at m s.pointers.current).source;
        destination = (descriptor_at m s.pointers.current).destination;
        total = (descriptor_at m s.pointers.current).count;
        moved = 0;
      }
      → Start s t (step m windows)
  count : (value : ℕ) → s.phase ≡ Idle → s.control.sgmode ≡ false
      → t ≡ record { source = s.simple.sa; destination = s.simple.da; total = count_of value; moved = 0 }
      → Start s t (write 0x28 value)

abbrev pub Begin : Type 0
Begin = (s : Engine) (t : Transfer) (first : Act) (rest : List Act) → Completes s t first rest → Start s t first

-- a fetch that goes to its update at once, as its count is 0 or a fixed side is off the multiples of the width, never ends
-- without error
abbrev pub Empty : Type 0
Empty = (s : Engine) (outcome : Outcome) (first : Act) (rest : List Act) → well_formed_of s ≡ true → in_transfer s.phase ≡ false
    → (act s first).phase ≡ Update outcome → Runs (act s first) rest → error_set_of (after (act s first) rest).status.fault ≡ true

-- ---- claim 1: cover

-- the bursts are the cut of the destination: each legal, each byte once in rising order, and no list of legal bursts that
-- covers those bytes, even out of order or overlapping, is shorter
pub record Covered (w l : ℕ) (t : Transfer) (moved : List Burst) : Type 0 where
  pub cuts : moved ≡ cut w l t.destination (t.destination + t.total)
  pub legal : AllLegal w l moved
  pub tiles : Tiles t.destination (t.destination + t.total) moved
  pub shortest : (others : List Burst) → AllLegal w l others → Covers t.destination (t.destination + t.total) others → length moved ≤ length others

-- whatever memory and windows each step is lent, if the destination increments; the source may be fixed
abbrev pub Cover : Type 0
Cover = (s : Engine) (t : Transfer) (first : Act) (rest : List Act) → Completes s t first rest → s.control.keyholewrite ≡ false
    → Covered s.settings.width s.settings.beats t (bursts s (first ∷ rest))

-- ---- claim 2: copy

-- the byte at x lies outside the n bytes from a on
abbrev pub Outside : ℕ → ℕ → ℕ → Type 0
Outside x a n = (x < a) ⊎ (a + n ≤ x)

-- only these steps touch the memory: the first is lent m, each other one what the one before left
abbrev pub Own : List ℕ → Engine → List Act → Type 0
Own m s [] = Unit {0}
Own m s (step lent windows ∷ more) = (lent ≡ m) × Own (advance_of s lent windows).memory (act s (step lent windows)) more
Own m s (write offset value ∷ more) = Own m (act s (write offset value)) more
Own m s (read offset ∷ more) = Own m s more

-- the memory that the last step left
abbrev pub left : List ℕ → Engine → List Act → List ℕ
left m s [] = m
left m s (step lent windows ∷ more) = left (advance_of s lent windows).memory (act s (step lent windows)) more
left m s (write offset value ∷ more) = left m (act s (write offset value)) more
left m s (read offset ∷ more) = left m s more

-- the premises: nothing else touches the memory, source and destination do not overlap, and in chain mode the
-- destination misses the status word
pub record Alone (s : Engine) (t : Transfer) (m : List ℕ) (acts : List Act) : Type 0 where
  pub own : Own m s acts
  pub apart : Apart t.source t.total t.destination t.total
  pub misses : s.control.sgmode ≡ true → Apart t.destination t.total (status_place s) 4

-- from memory m to memory m': the destination holds the source's bytes as they were, both within the memory; in chain
-- mode the status word says complete; no other byte differs
pub record Copied (s : Engine) (t : Transfer) (m m' : List ℕ) : Type 0 where
  pub size : length m' ≡ length m
  pub source_within : t.source + t.total ≤ length m
  pub destination_within : t.destination + t.total ≤ length m
  pub bytes : (i : ℕ) → i < t.total → get_or m' (t.destination + i) 0 ≡ get_or m (t.source + i) 0
  pub status : s.control.sgmode ≡ true → word_at m' (status_place s) ≡ 0x80000000
  pub others : (x : ℕ) → Outside x t.destination t.total → (s.control.sgmode ≡ true → Outside x (status_place s) 4) → get_or m' x 0 ≡ get_or m x 0

-- if both sides increment
abbrev pub Copy : Type 0
Copy = (s : Engine) (t : Transfer) (first : Act) (rest : List Act) (m : List ℕ) → Completes s t first rest → s.control.keyholeread ≡ false
    → s.control.keyholewrite ≡ false → Alone s t m (first ∷ rest) → Copied s t m (left m s (first ∷ rest))

-- ---- claim 3: steps

-- in chain mode a fetch, the bursts and an update; in simple mode the bursts; whichever sides are fixed
pub record Counted (s : Engine) (acts : List Act) : Type 0 where
  pub chain : s.control.sgmode ≡ true → steps acts ≡ 2 + length (bursts s acts)
  pub simple : s.control.sgmode ≡ false → steps acts ≡ length (bursts s acts)

abbrev pub Steps : Type 0
Steps = (s : Engine) (t : Transfer) (first : Act) (rest : List Act) → Completes s t first rest → Counted s (first ∷ rest)
