-- Laws of acts: of some and then others, and of the steps of a run.
use mathlib.Core.Path.{◌≡◌, refl, sym, ap, subst, ◌∙◌}
use Prim.Native.Nat.{ℕ, zero, suc, ◌+◌}
use mathlib.Core.Bool.{true, false}
use mathlib.Core.Logic.{◌⊎◌, inl, inr}
use mathlib.Core.List.{List, [], ◌∷◌, ◌++◌}
use native.Mathlib.Omega.{arith}
use lib.ListN.{length}
use Rattle.kit.proofs.Choice.{decide}
use Rattle.memory.specs.declared.window.Window.{Window}
use Rattle.state.specs.declared.engine.Engine.{Engine}
use Rattle.state.specs.State.{busy_of}
use Rattle.steps.specs.declared.event.Event.{Event}
use Rattle.steps.specs.Step.{advance_of}
use Rattle.runs.specs.Claims.{Acceptable}
use Rattle.runs.proofs.Acceptable.{advance-acceptable}
use Rattle.claims.specs.Transfers.{Act, step, write, read, act, after, steps, left}
use Rattle.claims.specs.Calls.{steps_of}
use Rattle.claims.specs.Events.{events_from}

-- the events of the steps among some acts, in order
abbrev pub events : Engine → List Act → List Event
events s [] = []
events s (step m windows ∷ more) = (advance_of s m windows).event ∷ events (act s (step m windows)) more
events s (write offset value ∷ more) = events (act s (write offset value)) more
events s (read offset ∷ more) = events s more

-- ---- some acts and then others

pub after-append : (s : Engine) (acts more : List Act) → after s (acts ++ more) ≡ after (after s acts) more
after-append s [] more = refl
after-append s (a ∷ acts) more = after-append (act s a) acts more

pub left-append : (m : List ℕ) (s : Engine) (acts more : List Act) → left m s (acts ++ more) ≡ left (left m s acts) (after s acts) more
left-append m s [] more = refl
left-append m s (step lent windows ∷ acts) more = left-append (advance_of s lent windows).memory (act s (step lent windows)) acts more
left-append m s (write offset value ∷ acts) more = left-append m (act s (write offset value)) acts more
left-append m s (read offset ∷ acts) more = left-append m s acts more

pub steps-append : (acts more : List Act) → steps (acts ++ more) ≡ steps acts + steps more
steps-append [] more = omega arith
steps-append (step m windows ∷ acts) more = let e = steps-append acts more in omega arith
steps-append (write offset value ∷ acts) more = steps-append acts more
steps-append (read offset ∷ acts) more = steps-append acts more

pub events-append : (s : Engine) (acts more : List Act) → events s (acts ++ more) ≡ events s acts ++ events (after s acts) more
events-append s [] more = refl
events-append s (step m windows ∷ acts) more =
    ap (λ (e : List Event). (advance_of s m windows).event ∷ e) (events-append (act s (step m windows)) acts more)
events-append s (write offset value ∷ acts) more = events-append (act s (write offset value)) acts more
events-append s (read offset ∷ acts) more = events-append s acts more

-- one event a step
pub events-length : (s : Engine) (acts : List Act) → length (events s acts) ≡ steps acts
events-length s [] = refl
events-length s (step m windows ∷ more) = ap suc (events-length (act s (step m windows)) more)
events-length s (write offset value ∷ more) = events-length (act s (write offset value)) more
events-length s (read offset ∷ more) = events-length s more

-- ---- the steps of a run

module _ (windows : List Window) where
  -- an idle engine takes none
  pub steps-idle : (n : ℕ) (s : Engine) (m : List ℕ) → busy_of s.phase ≡ false → steps_of n s m windows ≡ []
  unfolding steps_of
  steps-idle zero s m e = refl
  steps-idle (suc n) s m e = rw (e, steps_of)

  -- a busy one takes a step, and those of what it leaves
  pub steps-busy : (n : ℕ) (s : Engine) (m : List ℕ) → busy_of s.phase ≡ true
      → steps_of (suc n) s m windows ≡ step m windows ∷ steps_of n (advance_of s m windows).engine (advance_of s m windows).memory windows
  unfolding steps_of
  steps-busy n s m e = rw (e, steps_of)

  -- what holds where no step is left, where the engine is idle, and of a step and those after it, holds of every run's steps
  module _ (P : ℕ → Engine → List ℕ → List Act → Type 0)
      (none : (s : Engine) (m : List ℕ) → P 0 s m [])
      (idle : (n : ℕ) (s : Engine) (m : List ℕ) → busy_of s.phase ≡ false → P (suc n) s m [])
      (busy : (n : ℕ) (s : Engine) (m : List ℕ) → busy_of s.phase ≡ true
      → let r = advance_of s m windows in let more = steps_of n r.engine r.memory windows in
      P n r.engine r.memory more → P (suc n) s m (step m windows ∷ more)) where
    pub steps-induct : (n : ℕ) (s : Engine) (m : List ℕ) → P n s m (steps_of n s m windows)
    unfolding steps_of
    steps-induct zero s m = none s m
    steps-induct (suc n) s m =
        go (steps-induct n (advance_of s m windows).engine (advance_of s m windows).memory) (decide (busy_of s.phase))
      where
        go : (let r = advance_of s m windows in P n r.engine r.memory (steps_of n r.engine r.memory windows))
            → (busy_of s.phase ≡ true) ⊎ (busy_of s.phase ≡ false) → P (suc n) s m (steps_of (suc n) s m windows)
        go p (inl e) = subst (P (suc n) s m) (sym (steps-busy n s m e)) (busy n s m e p)
        go p (inr e) = subst (P (suc n) s m) (sym (steps-idle (suc n) s m e)) (idle n s m e)

  -- the steps of a run of n + k are those of a run of n, and then those of a run of k on what they left
  pub steps-join : (k n : ℕ) (s : Engine) (m : List ℕ)
      → let acts = steps_of n s m windows in steps_of (n + k) s m windows ≡ acts ++ steps_of k (after s acts) (left m s acts) windows
  steps-join k =
      steps-induct (λ n s m acts. steps_of (n + k) s m windows ≡ acts ++ steps_of k (after s acts) (left m s acts) windows)
      (λ s m. let e : 0 + k ≡ k = omega arith in ap (λ (x : ℕ). steps_of x s m windows) e)
      (λ n s m idle. steps-idle (suc n + k) s m idle ∙ sym (steps-idle k s m idle))
      (λ n s m busy more.
      let e : suc n + k ≡ suc (n + k) = omega arith in
      ap (λ (x : ℕ). steps_of x s m windows) e ∙ steps-busy (n + k) s m busy ∙ ap (λ (acts : List Act). step m windows ∷ acts) more)

  -- what is not refused before the steps of a run is not refused after them
  pub steps-acceptable : (k n : ℕ) (s : Engine) (m : List ℕ) → Acceptable s m k
      → let acts = steps_of n s m windows in Acceptable (after s acts) (left m s acts) k
  steps-acceptable k =
      steps-induct (λ n s m acts. Acceptable s m k → Acceptable (after s acts) (left m s acts) k) (λ s m a. a) (λ n s m idle a. a)
      (λ n s m busy more a. more (advance-acceptable s m windows k a))

  -- the events of a run are those of its steps
  pub steps-events : (n : ℕ) (s : Engine) (m : List ℕ) → events_from n s m windows ≡ events s (steps_of n s m windows)
  unfolding events_from
  steps-events =
      steps-induct (λ n s m acts. events_from n s m windows ≡ events s acts) (λ s m. refl) (λ n s m idle. rw (idle, events_from))
      (λ n s m busy more. rw (busy, events_from) (ap (λ (e : List Event). (advance_of s m windows).event ∷ e) more))
