-- RULES.md, "Memory that answers badly" and "Descriptor and steps": the place that a fault tells, and that nothing else of a step goes by it.
use Rattle.std.specs.Prelude.{◌≡◌, ℕ, List, length}
use Rattle.memory.specs.declared.window.Window.{Window}
use Rattle.memory.specs.declared.verdict.Verdict.{Verdict}
use Rattle.memory.specs.declared.verdict.Verdict.TheVariants.{Okay, Slave as SlaveError, Decode as DecodeError}
use Rattle.places.specs.Locate.{location_of}
use Rattle.places.specs.Claims.{Fails}
use Rattle.state.specs.declared.engine.Engine.{Engine}
use Rattle.state.specs.declared.engine.Transfer.{Transfer}
use Rattle.state.specs.declared.engine.ErrorBit.TheVariants.{DmaSlvErr, DmaDecErr}
use Rattle.state.specs.declared.engine.Outcome.{Outcome}
use Rattle.state.specs.declared.engine.Outcome.TheVariants.{Slave, Decode}
use Rattle.state.specs.declared.engine.Phase.{Phase}
use Rattle.state.specs.declared.engine.Phase.TheVariants.{Idle, Fetch, Move, Update}
use Rattle.state.specs.Descriptor.{descriptor_bytes}
use Rattle.steps.specs.declared.event.Event.{Event}
use Rattle.steps.specs.declared.event.Event.TheVariants.{None, Fetch as Fetched, Move as Moved, Fault, Update as Updated, Halt}
use Rattle.steps.specs.Step.{AfterAdvance, advance_seen, read_place, write_place, next_bytes, told_at, burst_answer, burst_moved, after_burst_of, after_fault_of, status_place, advance_by, advance_of}

-- the CDMASR bits of a move's error, and of a descriptor's
abbrev pub move_bit : Verdict → ℕ
move_bit Okay = 0
move_bit SlaveError = 5
move_bit DecodeError = 6

abbrev pub descriptor_bit : Verdict → ℕ
descriptor_bit Okay = 0
descriptor_bit SlaveError = 9
descriptor_bit DecodeError = 10

-- a is where the next burst of the transfer t fails, if its bytes give the error v
abbrev pub FailsAt : Engine → Transfer → List ℕ → List Window → Verdict → ℕ → Type 0
FailsAt s t m windows v a =
    Fails (length m) windows v (read_place s.settings s.control.keyholeread t) (write_place s.settings s.control.keyholewrite t) t.moved (next_bytes s t) a

-- a fault, by what it was: a move whose bytes answer with an error
pub record Faulted (s : Engine) (m : List ℕ) (windows : List Window) (place bit : ℕ) : Type 0 where
  pub transfer : Transfer
  pub moving : s.phase ≡ Move transfer
  pub verdict : Verdict
  pub answered : burst_answer s transfer (length m) windows (next_bytes s transfer) ≡ verdict
  pub failed : verdict ≡ Okay → ⊥
  pub told : bit ≡ move_bit verdict
  pub there : FailsAt s transfer m windows verdict place

-- the fault of a move whose bytes answer with the error v
pub record Tells (s : Engine) (t : Transfer) (m : List ℕ) (windows : List Window) (v : Verdict) : Type 0 where
  pub place : ℕ
  pub there : FailsAt s t m windows v place
  pub event : (advance_of s m windows).event ≡ Fault place (move_bit v)

-- a halt by the error v, by what it was: a fetch, judged by its descriptor, or an update, judged by the status word
pub data Halted (s : Engine) (m : List ℕ) (windows : List Window) (v : Verdict) : Type 0 where
  fetching : s.phase ≡ Fetch → (location_of (length m) windows s.pointers.current descriptor_bytes).verdict ≡ v → Halted s m windows v
  updating : (o : Outcome) → s.phase ≡ Update o → (location_of (length m) windows (status_place s) 4).verdict ≡ v → Halted s m windows v

-- whatever the state, the memory and the windows, in either mode
pub record FaultPlaces : Type 0 where
  -- a fault tells where the move failed
  pub told : (s : Engine) (m : List ℕ) (windows : List Window) (place bit : ℕ) → (advance_of s m windows).event ≡ Fault place bit
      → Faulted s m windows place bit
  -- a move whose bytes answer with an error is a fault
  pub faults : (s : Engine) (t : Transfer) (m : List ℕ) (windows : List Window) (v : Verdict) → s.phase ≡ Move t
      → burst_answer s t (length m) windows (next_bytes s t) ≡ v → (v ≡ Okay → ⊥) → Tells s t m windows v
  -- a burst fails at one place only
  pub once : (s : Engine) (t : Transfer) (m : List ℕ) (windows : List Window) (v : Verdict) (a b : ℕ)
      → FailsAt s t m windows v a → FailsAt s t m windows v b → a ≡ b
  -- a descriptor that cannot be fetched, or whose status word cannot be written, halts
  pub fetch-halts : (s : Engine) (m : List ℕ) (windows : List Window) (v : Verdict) → s.phase ≡ Fetch
      → (location_of (length m) windows s.pointers.current descriptor_bytes).verdict ≡ v → (v ≡ Okay → ⊥)
      → (advance_of s m windows).event ≡ Halt s.pointers.current (descriptor_bit v)
  pub update-halts : (s : Engine) (o : Outcome) (m : List ℕ) (windows : List Window) (v : Verdict) → s.phase ≡ Update o
      → (location_of (length m) windows (status_place s) 4).verdict ≡ v → (v ≡ Okay → ⊥)
      → (advance_of s m windows).event ≡ Halt s.pointers.current (descriptor_bit v)
  -- and a halt with one of these bits was such a descriptor's. So `location_of`, over the same bytes, has its place and its window
  pub halted : (s : Engine) (m : List ℕ) (windows : List Window) (v : Verdict) (current : ℕ) → (v ≡ Okay → ⊥)
      → (advance_of s m windows).event ≡ Halt current (descriptor_bit v) → Halted s m windows v

-- ---- as it was before: a fault told where the burst's destination bytes start. What a move stands on has not changed

-- a move by what its bytes answer
abbrev pub former_move_by : Engine → Transfer → List ℕ → ℕ → Verdict → AfterAdvance
former_move_by s t m n Okay = advance_seen (after_burst_of s t (told_at s t) n) (burst_moved s t m n)
former_move_by s t m n SlaveError = advance_seen (after_fault_of s (told_at s t) Slave DmaSlvErr) m
former_move_by s t m n DecodeError = advance_seen (after_fault_of s (told_at s t) Decode DmaDecErr) m

-- a step: every other phase is as it is now
abbrev pub former_by : Engine → List ℕ → List Window → Phase → AfterAdvance
former_by s m windows Idle = advance_by s m windows Idle
former_by s m windows Fetch = advance_by s m windows Fetch
former_by s m windows (Move t) = former_move_by s t m (next_bytes s t) (burst_answer s t (length m) windows (next_bytes s t))
former_by s m windows (Update o) = advance_by s m windows (Update o)

-- an event, but for the place of a fault
abbrev pub placed : ℕ → Event → Event
placed a None = None
placed a (Fetched current) = Fetched current
placed a (Moved b) = Moved b
placed a (Fault place bit) = Fault a bit
placed a (Updated current word) = Updated current word
placed a (Halt current bit) = Halt current bit

-- the state and the memory after a step are as they were, and so is its event but for the place of a fault
pub record SameButPlace (s : Engine) (m : List ℕ) (windows : List Window) : Type 0 where
  pub engine : (advance_of s m windows).engine ≡ (former_by s m windows s.phase).engine
  pub memory : (advance_of s m windows).memory ≡ (former_by s m windows s.phase).memory
  pub event : (a : ℕ) → placed a (advance_of s m windows).event ≡ placed a (former_by s m windows s.phase).event

abbrev pub OnlyPlaces : Type 0
OnlyPlaces = (s : Engine) (m : List ℕ) (windows : List Window) → SameButPlace s m windows
