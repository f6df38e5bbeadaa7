-- A burst that memory takes, to an engine in the midst of its transfer.
use mathlib.Core.Path.{◌≡◌, refl, sym, ap₂, ◌∙◌}
use Prim.Native.Nat.{ℕ, ◌+◌, ◌<◌}
use mathlib.Core.Bool.{Bool, false}
use mathlib.Core.List.{List}
use lib.ListN.{length}
use borrow.Author.Tests.{ne_eqb}
use Rattle.kit.proofs.Choice.{no}
use Rattle.kit.specs.declared.settings.Settings.{Settings}
use Rattle.memory.specs.declared.window.Window.{Window}
use Rattle.memory.specs.declared.verdict.Verdict.TheVariants.{Okay}
use Rattle.memory.specs.Verdict.{pair_of}
use Rattle.memory.specs.Burst.{copied}
use Rattle.memory.proofs.Groups.{pair-okay-fits}
use Rattle.state.specs.declared.engine.Engine.{Engine}
use Rattle.state.specs.declared.engine.Transfer.{Transfer}
use Rattle.state.specs.declared.engine.Phase.TheVariants.{Move}
use Rattle.state.specs.State.{with_phase}
use Rattle.steps.specs.declared.event.Event.TheVariants.{Move as MoveEvent}
use Rattle.steps.specs.Step.{advance_seen, reads_at, writes_at, bytes_by, told_by, answer_by, moved_by, finish_transfer_of, continue_or_finish_of, after_burst_of, advance_of}
use Rattle.steps.proofs.Advances.{advance-by}
use Rattle.steps.proofs.Bursts.{move-judged, answer-incrementing, moved-incrementing}
use Rattle.moves.specs.Moves.{Moving, moved_to}

module _ {settings : Settings} {reads writes : Bool} {t : Transfer} {s : Engine} (p : Moving settings reads writes t s) where
  -- the step of such an engine, if its next burst of n bytes is good
  pub step-moves : (m : List ℕ) (windows : List Window) {n at : ℕ} {after : List ℕ} → n ≡ bytes_by settings writes t
      → Okay ≡ answer_by settings reads writes t (length m) windows n → at ≡ told_by writes t → after ≡ moved_by settings reads writes t m n
      → advance_of s m windows ≡ advance_seen (after_burst_of s t at n) after
  step-moves m windows {n} e okay told moved =
      sym (advance-by s m windows p.phase
      (ap₂ (λ (a : ℕ) (l : List ℕ). advance_seen (after_burst_of s t a n) l) (told ∙ sym (λ i. told_by (p.destination i) t))
      (moved ∙ sym (λ i. moved_by (p.set i) (p.source i) (p.destination i) t m n))
      ∙ move-judged s t m windows (e ∙ sym (λ i. bytes_by (p.set i) (p.destination i) t))
      (okay ∙ sym (λ i. answer_by (p.set i) (p.source i) (p.destination i) t (length m) windows n))))

  -- and in its midst it stays, if the burst is not the last one
  pub goes_on : (n : ℕ) → (t.moved + n ≡ t.total → ⊥) → continue_or_finish_of s t (t.moved + n) ≡ with_phase s (Move (moved_to t (t.moved + n)))
  goes_on n short = sym (no (finish_transfer_of s) (ne_eqb (t.moved + n) t.total short) refl)

-- both in one, where both sides increment: what `MovesOn` asks of a burst
module _ {settings : Settings} {t : Transfer} {s : Engine} (p : Moving settings false false t s) where
  pub step-moves-on : (m : List ℕ) (windows : List Window) {n : ℕ} {after : List ℕ} → n ≡ bytes_by settings false t → 0 < n
      → Okay ≡ pair_of (length m) windows (reads_at t) (writes_at t) n → (t.moved + n ≡ t.total → ⊥) → after ≡ copied m (reads_at t) (writes_at t) n
      → advance_of s m windows
      ≡ record { event = MoveEvent (record { start = writes_at t; bytes = n }); engine = with_phase s (Move (moved_to t (t.moved + n))); memory = after }
  step-moves-on m windows {n} {after} e some okay short f =
      let fits = pair-okay-fits (length m) windows (reads_at t) (writes_at t) n (sym okay) some in
      step-moves p m windows e (okay ∙ sym (answer-incrementing settings t (length m) windows n)) refl (f ∙ sym (moved-incrementing settings t m n fits.0))
      ∙ (λ i. record { event = MoveEvent (record { start = writes_at t; bytes = n }); engine = goes_on p n short i; memory = after })
