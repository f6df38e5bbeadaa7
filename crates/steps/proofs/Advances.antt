-- The view of a step: every step is one of these. What holds in each case holds of a step.
use mathlib.Core.Path.{◌≡◌, refl, sym, ap, ◌∙◌}
use Prim.Native.Nat.{ℕ}
use mathlib.Core.Bool.{Bool, true, false}
use mathlib.Core.List.{List}
use lib.ListN.{length}
use lib.Seq.{sets}
use Rattle.kit.specs.Word.{bytes_of}
use Rattle.kit.proofs.Choice.{cases}
use Rattle.memory.specs.declared.window.Window.{Window}
use Rattle.memory.specs.declared.verdict.Verdict.{Verdict}
use Rattle.memory.specs.declared.verdict.Verdict.TheVariants.{Okay, Slave as SlaveError, Decode as DecodeError}
use Rattle.memory.specs.Verdict.{group_of}
use Rattle.state.specs.declared.engine.Engine.{Engine}
use Rattle.state.specs.declared.engine.Transfer.{Transfer}
use Rattle.state.specs.declared.engine.ErrorBit.{ErrorBit}
use Rattle.state.specs.declared.engine.ErrorBit.TheVariants.{SgIntErr, SgSlvErr, SgDecErr, DmaSlvErr, DmaDecErr}
use Rattle.state.specs.declared.engine.Outcome.{Outcome}
use Rattle.state.specs.declared.engine.Outcome.TheVariants.{Complete, Internal, Slave, Decode}
use Rattle.state.specs.declared.engine.Phase.{Phase}
use Rattle.state.specs.declared.engine.Phase.TheVariants.{Idle, Fetch, Move, Update}
use Rattle.state.specs.declared.descriptor.Descriptor.{Descriptor}
use Rattle.state.specs.Descriptor.{descriptor_bytes, descriptor_at, start_of}
use Rattle.state.specs.State.{busy_of, error_set_of, with_phase, with_heldnext}
use Rattle.steps.specs.declared.event.Event.TheVariants.{Fetch as Fetched}
use Rattle.steps.specs.declared.event.Advanced.{Advanced}
use Rattle.steps.specs.Step.{AfterAdvance, advance_seen, begun, halt_of, phase_after_fetch_of, accept_of, fetch_by, next_bytes, told_at, burst_answer, burst_moved, after_burst_of, after_fault_of, move_burst_by, status_place, status_word_of, after_update_of, update_by, advance_by, advance_of}

-- an outcome that is an error
abbrev pub failed : Outcome → Bool
failed Complete = false
failed Internal = true
failed Slave = true
failed Decode = true

module _ (s : Engine) (m : List ℕ) (windows : List Window) where
  -- the descriptor that a fetch reads
  abbrev pub descriptor : Descriptor
  descriptor = descriptor_at m s.pointers.current

  -- the state after a fetch that goes on
  abbrev pub fetched : Engine
  fetched =
      with_phase (with_heldnext s descriptor.next)
      (phase_after_fetch_of (start_of s.settings.width s.control descriptor.source descriptor.destination descriptor.count))

  -- what a transfer's next burst answers
  abbrev pub judged : Transfer → Verdict
  judged t = burst_answer s t (length m) windows (next_bytes s t)

  pub data Advance : AfterAdvance → Type 0 where
    rests : s.phase ≡ Idle → Advance (begun s m)
    halts : busy_of s.phase ≡ true → (b : ErrorBit) → error_set_of b ≡ true → Advance (advance_seen (halt_of s b) m)
    fetches : s.phase ≡ Fetch → group_of (length m) windows s.pointers.current descriptor_bytes ≡ Okay → descriptor.stale ≡ false
        → Advance (advance_seen (record { event = Fetched s.pointers.current; engine = fetched }) m)
    moves : (t : Transfer) → s.phase ≡ Move t → judged t ≡ Okay
        → Advance (advance_seen (after_burst_of s t (told_at s t) (next_bytes s t)) (burst_moved s t m (next_bytes s t)))
    faults : {place : ℕ} (t : Transfer) → s.phase ≡ Move t → (o : Outcome) → failed o ≡ true → (b : ErrorBit) → error_set_of b ≡ true
        → Advance (advance_seen (after_fault_of s place o b) m)
    updates : (o : Outcome) → s.phase ≡ Update o → group_of (length m) windows (status_place s) 4 ≡ Okay
        → Advance (advance_seen (after_update_of s o (status_word_of o)) (sets m (status_place s) (bytes_of (status_word_of o))))

  fetching : s.phase ≡ Fetch → (v : Verdict) → group_of (length m) windows s.pointers.current descriptor_bytes ≡ v → Advance (advance_seen (fetch_by s m v) m)
  unfolding accept_of
  fetching e Okay okay =
      cases (λ (r : Advanced). Advance (advance_seen r m)) descriptor.stale (λ _. halts (ap busy_of e) SgIntErr refl) (fetches e okay)
  fetching e SlaveError _ = halts (ap busy_of e) SgSlvErr refl
  fetching e DecodeError _ = halts (ap busy_of e) SgDecErr refl

  moving : (t : Transfer) → s.phase ≡ Move t → (v : Verdict) → judged t ≡ v → Advance (move_burst_by s t m windows (next_bytes s t) v)
  moving t e Okay okay = moves t e okay
  moving t e SlaveError _ = faults t e Slave refl DmaSlvErr refl
  moving t e DecodeError _ = faults t e Decode refl DmaDecErr refl

  updating : (o : Outcome) → s.phase ≡ Update o → (v : Verdict) → group_of (length m) windows (status_place s) 4 ≡ v → Advance (update_by s o m v)
  updating o e Okay okay = updates o e okay
  updating o e SlaveError _ = halts (ap busy_of e) SgSlvErr refl
  updating o e DecodeError _ = halts (ap busy_of e) SgDecErr refl

  by-phase : (p : Phase) → s.phase ≡ p → Advance (advance_by s m windows p)
  by-phase Idle e = rests e
  by-phase Fetch e = fetching e (group_of (length m) windows s.pointers.current descriptor_bytes) refl
  by-phase (Move t) e = moving t e (judged t) refl
  by-phase (Update o) e = updating o e (group_of (length m) windows (status_place s) 4) refl

  pub advances : Advance (advance_of s m windows)
  unfolding advance_of
  advances = by-phase s.phase refl

  -- a step by its phase
  pub advance-by : {p : Phase} {r : AfterAdvance} → s.phase ≡ p → r ≡ advance_by s m windows p → r ≡ advance_of s m windows
  unfolding advance_of
  advance-by e f = f ∙ ap (advance_by s m windows) (sym e)
