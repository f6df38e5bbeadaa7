-- RULES.md, "Descriptor and steps": a move where neither side is fixed, and that this is all that it is; proofs/Incrementing.antt proves it.
use Rattle.std.specs.Prelude.{◌≡◌, ℕ, ◌-◌, true, false, List, length}
use Rattle.kit.specs.Settings.{legal_of}
use Rattle.cut.specs.Cut.{burst_bytes}
use Rattle.memory.specs.declared.window.Window.{Window}
use Rattle.memory.specs.declared.verdict.Verdict.{Verdict}
use Rattle.memory.specs.declared.verdict.Verdict.TheVariants.{Okay, Slave as SlaveError, Decode as DecodeError}
use Rattle.memory.specs.Verdict.{pair_of}
use Rattle.memory.specs.Burst.{copied}
use Rattle.places.specs.Places.{lowest_in, first_found, address_of}
use Rattle.state.specs.declared.engine.Engine.{Engine}
use Rattle.state.specs.declared.engine.Transfer.{Transfer}
use Rattle.state.specs.declared.engine.ErrorBit.TheVariants.{DmaSlvErr, DmaDecErr}
use Rattle.state.specs.declared.engine.Outcome.TheVariants.{Slave, Decode}
use Rattle.state.specs.declared.engine.Phase.TheVariants.{Move}
use Rattle.state.specs.State.{well_formed_of}
use Rattle.steps.specs.Step.{AfterAdvance, advance_seen, reads_at, writes_at, after_burst_of, after_fault_of, advance_of}

-- where n bytes that answer with the error v fail: the lowest of the source's that gives v, or else of the destination's
abbrev pub pair_place : Transfer → ℕ → List Window → ℕ → Verdict → ℕ
pair_place t size windows n v = address_of (first_found (lowest_in size windows v (reads_at t) n) (lowest_in size windows v (writes_at t) n))

-- a move by what its bytes answer: n bytes are copied, and told by where they are written
abbrev pub incrementing_by : Engine → Transfer → List ℕ → List Window → ℕ → Verdict → AfterAdvance
incrementing_by s t m windows n Okay = advance_seen (after_burst_of s t (writes_at t) n) (copied m (reads_at t) (writes_at t) n)
incrementing_by s t m windows n SlaveError = advance_seen (after_fault_of s (pair_place t (length m) windows n SlaveError) Slave DmaSlvErr) m
incrementing_by s t m windows n DecodeError = advance_seen (after_fault_of s (pair_place t (length m) windows n DecodeError) Decode DmaDecErr) m

-- the first burst of the cut of what remains; its source and destination bytes are judged together
abbrev pub incrementing_of : Engine → Transfer → List ℕ → List Window → AfterAdvance
incrementing_of s t m windows =
    let n = burst_bytes s.settings.width s.settings.beats (writes_at t) (t.total - t.moved) in
    incrementing_by s t m windows n (pair_of (length m) windows (reads_at t) (writes_at t) n)

-- with both bits 0 a move is this and no more
abbrev pub Incrementing : Type 0
Incrementing = (s : Engine) (t : Transfer) (m : List ℕ) (windows : List Window) → legal_of s.settings ≡ true → well_formed_of s ≡ true
    → s.phase ≡ Move t → s.control.keyholeread ≡ false → s.control.keyholewrite ≡ false → advance_of s m windows ≡ incrementing_of s t m windows
