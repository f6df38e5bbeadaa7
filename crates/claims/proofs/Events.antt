-- The claims of specs/Events.antt: a run's events are as many as its steps, each is that of a step, and a walk keeps the last.
use mathlib.Core.Path.{◌≡◌, refl, sym, ap, ap₂, ◌∙◌}
use Prim.Native.Nat.{ℕ, zero, suc, ◌+◌, ◌-◌, ◌<◌}
use mathlib.Core.Bool.{true, false}
use mathlib.Core.List.{List, [], ◌∷◌}
use native.Mathlib.Omega.{arith}
use lib.ListN.{length, get_or}
use Rattle.memory.specs.declared.window.Window.{Window}
use Rattle.memory.specs.Windows.{windows_of}
use Rattle.state.specs.declared.engine.Engine.{Engine}
use Rattle.state.specs.State.{busy_of}
use Rattle.steps.specs.declared.event.Event.{Event}
use Rattle.steps.specs.declared.event.Event.TheVariants.{None}
use Rattle.steps.specs.Step.{AfterAdvance, advance_of}
use Rattle.runs.specs.Run.{AfterWalk, walk_from, AfterStep, step_of, run_of}
use Rattle.runs.proofs.Entries.{advance-idle, step-refused, step-advances}
use Rattle.runs.proofs.Walks.{walk_none, walk-idle, walk_step}
use Rattle.claims.specs.Transfers.{Act, step, after, left}
use Rattle.claims.specs.Calls.{steps_of}
use Rattle.claims.specs.Events.{events_from, events_of, EventsCounted, EachEvent, LastEvent}
use Rattle.claims.proofs.Acts.{events, events-length, steps-idle, steps-busy, steps-induct, steps-events}
use Rattle.claims.proofs.Judged.{Does, Judged, bars, goes, judged, unrefused}

pub events-counted : EventsCounted
events-counted n s m windows = go (judged s m windows)
  where
    by : (acts : List Act) → Does s m windows n acts → length (events_of n s m windows) ≡ (run_of n s m windows).steps
    by acts d = ap length d.events ∙ events-length s acts ∙ sym d.steps

    go : Judged s m windows → length (events_of n s m windows) ≡ (run_of n s m windows).steps
    go (bars z d) = by [] (d n)
    go (goes e d) = by (steps_of n s m (windows_of windows)) (d n)

-- ---- each event

module _ (windows : List Window) where
  -- the event of a step on what some acts left
  abbrev event_after : Engine → List ℕ → List Act → Event
  event_after s m acts = (advance_of (after s acts) (left m s acts) windows).event

  idle-event : (s : Engine) (m : List ℕ) → busy_of s.phase ≡ false → None ≡ (advance_of s m windows).event
  idle-event s m idle = ap (λ (r : AfterAdvance). r.event) (advance-idle s m windows idle)

  each_step : (n : ℕ) (s : Engine) (m : List ℕ) (i : ℕ) → i < n → get_or (events s (steps_of n s m windows)) i None ≡ event_after s m (steps_of i s m windows)
  unfolding steps_of
  each_step =
      steps-induct windows (λ n s m acts. (i : ℕ) → i < n → get_or (events s acts) i None ≡ event_after s m (steps_of i s m windows))
      (λ s m i h. absurd (omega arith))
      (λ n s m idle i h. idle-event s m idle ∙ sym (ap (event_after s m) (steps-idle windows i s m idle)))
      (λ n s m busy more i h. go n s m busy more i h)
    where
      go : (n : ℕ) (s : Engine) (m : List ℕ) → busy_of s.phase ≡ true
          → (let r = advance_of s m windows in (i : ℕ) → i < n → get_or (events r.engine (steps_of n r.engine r.memory windows)) i None ≡ event_after r.engine r.memory (steps_of i r.engine r.memory windows))
          → (i : ℕ) → i < suc n
          → let r = advance_of s m windows in get_or (events s (step m windows ∷ steps_of n r.engine r.memory windows)) i None ≡ event_after s m (steps_of i s m windows)
      go n s m busy more zero h = refl
      go n s m busy more (suc i) h = more i (omega arith) ∙ sym (ap (event_after s m) (steps-busy windows i s m busy))

pub each-event : EachEvent
each-event n i s m windows bytes h = go (judged s m windows)
  where
    -- a step after the run of i is one after its acts
    by : (acts : List Act) → Does s m windows i acts
        → (step_of (after s acts) (left m s acts) windows).event ≡ (step_of (run_of i s m windows).engine (run_of i s m windows).memory windows).event
    by acts d = sym (ap₂ (λ (x : Engine) (y : List ℕ). (step_of x y windows).event) d.engine d.memory)

    go : Judged s m windows → get_or (events_of n s m windows) i None ≡ (step_of (run_of i s m windows).engine (run_of i s m windows).memory windows).event
    go (bars z d) = ap (λ (e : List Event). get_or e i None) (d n).events ∙ ap (λ (r : AfterStep). r.event) (step-refused s m windows refl z) ∙ by [] (d i)
    go (goes e d) =
        let acts = steps_of i s m (windows_of windows) in
        ap (λ (e : List Event). get_or e i None) (d n).events ∙ each_step (windows_of windows) n s m i h
        ∙ sym (ap (λ (r : AfterStep). r.event) (step-advances (after s acts) (left m s acts) windows (unrefused i s m windows bytes e))) ∙ by acts (d i)

-- ---- the last event

-- the last of some events, or the one before them
last : Event → List Event → Event
last e [] = e
last e (x ∷ more) = last x more

last-at : (e : Event) (more : List Event) → last e more ≡ get_or (e ∷ more) (length more) None
unfolding last
last-at e [] = refl
last-at e (x ∷ more) = last-at x more

walk-last : (windows : List Window) (n : ℕ) (s : Engine) (m : List ℕ) (i : ℕ) (e : Event)
    → (walk_from n i (record { event = e; engine = s; memory = m }) windows).event ≡ last e (events s (steps_of n s m windows))
unfolding last
walk-last windows =
    steps-induct windows (λ n s m acts. (i : ℕ) (e : Event) → (walk_from n i (record { event = e; engine = s; memory = m }) windows).event ≡ last e (events s acts))
    (λ s m i e. ap (λ (w : AfterWalk). w.event) (walk_none i (record { event = e; engine = s; memory = m }) windows 0 refl))
    (λ n s m idle i e. ap (λ (w : AfterWalk). w.event) (walk-idle i (record { event = e; engine = s; memory = m }) windows (suc n) idle))
    (λ n s m busy more i e.
    let one : suc n - 1 ≡ n = omega arith in
    ap (λ (w : AfterWalk). w.event) (walk_step i (record { event = e; engine = s; memory = m }) windows (suc n) (omega arith) busy)
    ∙ ap (λ (k : ℕ). (walk_from k (i + 1) (advance_of s m windows) windows).event) one ∙ more (i + 1) (advance_of s m windows).event)

pub last-event : LastEvent
unfolding last
last-event n s m windows =
    walk-last windows n s m 0 None ∙ ap (last None) (sym (steps-events windows n s m)) ∙ go (events_from n s m windows)
  where
    go : (told : List Event) → last None told ≡ get_or told (length told - 1) None
    go [] = refl
    go (e ∷ more) = let one : length more ≡ suc (length more) - 1 = omega arith in last-at e more ∙ ap (λ (i : ℕ). get_or (e ∷ more) i None) one
