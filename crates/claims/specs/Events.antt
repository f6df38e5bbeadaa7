-- RULES.md, "Descriptor and steps": a run's events are its steps' events, in order. A run does not hand them back.
use Rattle.std.specs.Prelude.{◌≡◌, ℕ, zero, suc, ◌-◌, ◌/◌, ◌<◌, true, false, List, [], ◌∷◌, length, get_or, eqb}
use Rattle.kit.specs.Choice.{when}
use Rattle.memory.specs.declared.window.Window.{Window}
use Rattle.memory.specs.Windows.{windows_of}
use Rattle.state.specs.declared.engine.Engine.{Engine}
use Rattle.state.specs.State.{busy_of}
use Rattle.steps.specs.declared.event.Event.{Event}
use Rattle.steps.specs.declared.event.Event.TheVariants.{None}
use Rattle.steps.specs.Step.{begun, advance_of}
use Rattle.steps.specs.Claims.{Bytes}
use Rattle.runs.specs.Run.{refusal_of, walk_from, step_of, run_of}

-- the events of steps until idle or n are taken, in order
unfoldable pub events_from : ℕ → Engine → List ℕ → List Window → List Event
events_from zero s m windows = []
events_from (suc n) s m windows =
    let r = advance_of s m windows in
    elim (busy_of s.phase) [ true ↦ r.event ∷ events_from n r.engine r.memory windows | false ↦ [] ]

-- the events of a run of at most n steps; a refused one has none
unfoldable pub events_of : ℕ → Engine → List ℕ → List ℕ → List Event
events_of n s m windows = when (eqb (refusal_of s (length m) (length windows / 2)) 0) (events_from n s m (windows_of windows)) []

-- they are as many as the steps that the run reports
abbrev pub EventsCounted : Type 0
EventsCounted = (n : ℕ) (s : Engine) (m windows : List ℕ) → length (events_of n s m windows) ≡ (run_of n s m windows).steps

-- event i, counted from 0, is what a step taken after a run of i steps tells; past the last event both are none
abbrev pub EachEvent : Type 0
EachEvent = (n i : ℕ) (s : Engine) (m windows : List ℕ) → Bytes m → i < n
    → let before = run_of i s m windows in get_or (events_of n s m windows) i None ≡ (step_of before.engine before.memory windows).event

-- the one event that a walk keeps is the last of them, or none if there is none
abbrev pub LastEvent : Type 0
LastEvent = (n : ℕ) (s : Engine) (m : List ℕ) (windows : List Window)
    → let told = events_from n s m windows in (walk_from n 0 (begun s m) windows).event ≡ get_or told (length told - 1) None
