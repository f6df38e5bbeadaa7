-- A walk of one step is a step, a walk its steps; two results that one contract allows are equal.
use mathlib.Core.Path.{◌≡◌, refl, sym, ap, ap₂, ◌∙◌}
use Prim.Native.Nat.{ℕ, zero, suc, ◌/◌}
use mathlib.Core.Bool.{Bool, true, false}
use mathlib.Core.List.{List}
use mathlib.Core.Logic.{◌⊎◌, inl, inr}
use native.Mathlib.Omega.{arith}
use lib.ListN.{length}
use lib.Dec.{eqb}
use borrow.Author.Tests.{eq-eqb, ne_eqb}
use Rattle.kit.proofs.Choice.{yes, no, decide, never}
use Rattle.kit.proofs.Numbers.{refusal-tells, refusal-some}
use Rattle.std.specs.Prelude.{Ok, Err}
use Rattle.kit.specs.declared.answer.Refusal.{Refusal}
use Rattle.kit.specs.Answer.{number_of}
use Rattle.memory.specs.declared.window.Window.{Window}
use Rattle.memory.specs.Windows.{windows_of}
use Rattle.state.specs.declared.engine.Engine.{Engine}
use Rattle.state.specs.declared.engine.Phase.{Phase}
use Rattle.state.specs.declared.engine.Phase.TheVariants.{Idle, Fetch, Move, Update}
use Rattle.state.specs.State.{busy_of}
use Rattle.steps.specs.Step.{AfterAdvance, begun, advance_of}
use Rattle.runs.specs.Run.{refusal_of, AfterWalk, after_steps, walk_from, AfterStep, step_answer, step_of, AfterRun, run_answer, run_of}
use Rattle.runs.specs.Claims.{StepAdvances, steps_from, WalkSteps, StepUnique, RunUnique}
use Rattle.runs.proofs.Acceptable.{acceptable-unrefused, advance-acceptable}
use Rattle.steps.proofs.Advances.{advance-by}
use Rattle.runs.proofs.Walks.{walk_none, walk-idle, walk_step}

idle : (p : Phase) → busy_of p ≡ false → p ≡ Idle
idle Idle e = refl
idle Fetch e = absurd (never (sym e))
idle (Move t) e = absurd (never (sym e))
idle (Update o) e = absurd (never (sym e))

-- an idle engine rests
pub advance-idle : (s : Engine) (m : List ℕ) (windows : List Window) → busy_of s.phase ≡ false → begun s m ≡ advance_of s m windows
advance-idle s m windows e = advance-by s m windows (idle s.phase e) refl

-- a walk without its number of steps
abbrev pub unstepped : AfterWalk → AfterAdvance
unstepped w = record { event = w.event; engine = w.engine; memory = w.memory }

-- a walk of one step
pub one-step : (s : Engine) (m : List ℕ) (windows : List Window) → unstepped (walk_from 1 0 (begun s m) windows) ≡ advance_of s m windows
one-step s m windows = go (decide (busy_of s.phase))
  where
    go : (busy_of s.phase ≡ true) ⊎ (busy_of s.phase ≡ false) → unstepped (walk_from 1 0 (begun s m) windows) ≡ advance_of s m windows
    go (inl e) = ap unstepped (walk_step 0 (begun s m) windows 1 (omega arith) e ∙ walk_none 1 (advance_of s m windows) windows 0 refl)
    go (inr e) = ap unstepped (walk-idle 0 (begun s m) windows 1 e) ∙ advance-idle s m windows e

-- a refusal's number n, and a step or a run that is not refused
module _ (s : Engine) (m windows : List ℕ) {n : ℕ} (e : n ≡ refusal_of s (length m) (length windows / 2)) where
  refused : (n ≡ 0 → ⊥) → eqb (refusal_of s (length m) (length windows / 2)) 0 ≡ false
  refused z = ne_eqb (refusal_of s (length m) (length windows / 2)) 0 (λ y. z (e ∙ y))

  passed : n ≡ 0 → eqb (refusal_of s (length m) (length windows / 2)) 0 ≡ true
  passed z = eq-eqb (refusal_of s (length m) (length windows / 2)) 0 (sym e ∙ z)

  pub step-refused : (n ≡ 0 → ⊥) → step_answer n (begun s m) ≡ step_of s m windows
  unfolding step_of
  step-refused z = ap₂ step_answer e (no (advance_of s m (windows_of windows)) (refused z) refl)

  step-passed : {r : AfterAdvance} → n ≡ 0 → r ≡ advance_of s m (windows_of windows) → step_answer n r ≡ step_of s m windows
  unfolding step_of
  step-passed z f = ap₂ step_answer e (yes (begun s m) (passed z) f)

  pub step-taken : {w : AfterWalk} → n ≡ 0 → w ≡ walk_from 1 0 (begun s m) (windows_of windows) → step_answer n (unstepped w) ≡ step_of s m windows
  step-taken z f = step-passed z (ap unstepped f ∙ one-step s m (windows_of windows))

  pub run-refused : (most : ℕ) → (n ≡ 0 → ⊥) → run_answer n (after_steps 0 (begun s m)) ≡ run_of most s m windows
  unfolding run_of
  run-refused most z = ap₂ run_answer e (no (walk_from most 0 (begun s m) (windows_of windows)) (refused z) refl)

  pub run-taken : (most : ℕ) {w : AfterWalk} → n ≡ 0 → w ≡ walk_from most 0 (begun s m) (windows_of windows) → run_answer n w ≡ run_of most s m windows
  unfolding run_of
  run-taken most z f = ap₂ run_answer e (yes (after_steps 0 (begun s m)) (passed z) f)

pub step-advances : StepAdvances
step-advances s m windows a = sym (step-passed s m windows (sym (acceptable-unrefused s m (length windows / 2) a)) refl refl)

-- a step without its answer
unanswered : AfterStep → AfterAdvance
unanswered r = record { event = r.event; engine = r.engine; memory = r.memory }

pub walk_steps : WalkSteps
unfolding walk_from steps_from unanswered
walk_steps zero i r windows a = refl
walk_steps (suc n) i r windows a =
    turn (walk_steps n (suc i) next windows (advance-acceptable r.engine r.memory (windows_of windows) (length windows / 2) a)) (busy_of r.engine.phase)
  where
    next : AfterAdvance
    next = advance_of r.engine r.memory (windows_of windows)

    called : AfterAdvance
    called = unanswered (step_of r.engine r.memory windows)

    turn : walk_from n (suc i) next (windows_of windows) ≡ steps_from n (suc i) next windows → (busy : Bool)
        → ◌≡◌ {A = AfterWalk} (elim busy [ true ↦ walk_from n (suc i) next (windows_of windows) | false ↦ after_steps i r ])
        (elim busy [ true ↦ steps_from n (suc i) called windows | false ↦ after_steps i r ])
    turn k true = k ∙ ap (λ (x : AfterAdvance). steps_from n (suc i) x windows) (sym (ap unanswered (step-advances r.engine r.memory windows a)))
    turn k false = refl

-- ---- uniqueness

-- no refusal's number is 0
pub numbered : (f : Refusal) → number_of f ≡ 0 → ⊥
numbered f e = never (sym (refusal-some f) ∙ ap (λ (n : ℕ). eqb n 0) e)

pub step-unique : StepUnique
step-unique s (Ok p) (Ok q) a b x e f =
    let same = e ∙ sym f in
    let events = ap (λ (y : AfterStep). y.event) same in
    let engines = ap (λ (y : AfterStep). y.engine) same in
    (λ i. Ok (record { event = events i; engine = engines i }), ap (λ (y : AfterStep). y.memory) same)
step-unique s (Ok p) (Err q) a b x e f = absurd (numbered q (sym (ap (λ (y : AfterStep). y.answer) (e ∙ sym f))))
step-unique s (Err p) (Ok q) a b x e f = absurd (numbered p (ap (λ (y : AfterStep). y.answer) (e ∙ sym f)))
step-unique s (Err p) (Err q) a b x e f =
    let same = e ∙ sym f in (ap Err (refusal-tells (ap (λ (y : AfterStep). y.answer) same)), ap (λ (y : AfterStep). y.memory) same)

pub run-unique : RunUnique
run-unique s (Ok p) (Ok q) a b x e f =
    let same = e ∙ sym f in
    let steps = ap (λ (y : AfterRun). y.steps) same in
    let engines = ap (λ (y : AfterRun). y.engine) same in
    (λ i. Ok (record { steps = steps i; engine = engines i }), ap (λ (y : AfterRun). y.memory) same)
run-unique s (Ok p) (Err q) a b x e f = absurd (numbered q (sym (ap (λ (y : AfterRun). y.answer) (e ∙ sym f))))
run-unique s (Err p) (Ok q) a b x e f = absurd (numbered p (ap (λ (y : AfterRun). y.answer) (e ∙ sym f)))
run-unique s (Err p) (Err q) a b x e f =
    let same = e ∙ sym f in (ap Err (refusal-tells (ap (λ (y : AfterRun). y.answer) same)), ap (λ (y : AfterRun). y.memory) same)
