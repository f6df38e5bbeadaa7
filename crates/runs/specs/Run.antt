-- RULES.md, "Descriptor and steps" and "Numbered answers": a step and a run, with their refusals.
use Rattle.std.specs.Prelude.{ℕ, zero, suc, ◌/◌, true, false, List, length, eqb, ltb, Result, Ok, Err}
use Rattle.kit.specs.Choice.{when}
use Rattle.kit.specs.declared.answer.Refusal.{Refusal}
use Rattle.kit.specs.Answer.{number_of}
use Rattle.kit.specs.Limits.{most_memory, most_windows}
use Rattle.kit.specs.Settings.{legal_of}
use Rattle.memory.specs.declared.window.Window.{Window}
use Rattle.memory.specs.Windows.{windows_of}
use Rattle.state.specs.declared.engine.Engine.{Engine}
use Rattle.state.specs.State.{busy_of, well_formed_of}
use Rattle.steps.specs.declared.event.Event.{Event}
use Rattle.steps.specs.declared.event.Advanced.{Advanced}
use Rattle.runs.specs.declared.run.Ran.{Ran}
use Rattle.runs.specs.declared.walk.Walked.{Walked}
use Rattle.steps.specs.Step.{AfterAdvance, advance_seen, begun, advance_of}

-- step and run: 1, 2, 6, 9, the first that fits, by the memory's bytes and the number of windows
unfoldable pub refusal_of : Engine → ℕ → ℕ → ℕ
refusal_of s size windows =
    when (legal_of s.settings)
    (when (ltb most_memory size) 2 (when (ltb most_windows windows) 6 (when (well_formed_of s) 0 9)))
    1

-- what some steps leave: the last event, their number, the state and the memory
pub record AfterWalk : Type 0 where
  pub event : Event
  pub steps : ℕ
  pub engine : Engine
  pub memory : List ℕ

abbrev pub after_steps : ℕ → AfterAdvance → AfterWalk
after_steps i r = record { event = r.event; steps = i; engine = r.engine; memory = r.memory }

-- steps until idle or n more are taken, i taken before
unfoldable pub walk_from : ℕ → ℕ → AfterAdvance → List Window → AfterWalk
walk_from zero i r windows = after_steps i r
walk_from (suc n) i r windows =
    elim (busy_of r.engine.phase) [ true ↦ walk_from n (suc i) (advance_of r.engine r.memory windows) windows | false ↦ after_steps i r ]

-- where they stand then
abbrev pub stands_at : Walked → List ℕ → AfterAdvance
stands_at r m = record { event = r.event; engine = r.engine; memory = m }

abbrev pub walk_seen : Walked → List ℕ → AfterWalk
walk_seen r m = record { event = r.event; steps = r.steps; engine = r.engine; memory = m }

-- a step: its answer's number, event, state and memory; a refusal leaves state and memory as they were, and no event
pub record AfterStep : Type 0 where
  pub answer : ℕ
  pub event : Event
  pub engine : Engine
  pub memory : List ℕ

abbrev pub step_answer : ℕ → AfterAdvance → AfterStep
step_answer n r = record { answer = n; event = r.event; engine = r.engine; memory = r.memory }

unfoldable pub step_of : Engine → List ℕ → List ℕ → AfterStep
step_of s m windows =
    let n = refusal_of s (length m) (length windows / 2) in
    step_answer n (when (eqb n 0) (advance_of s m (windows_of windows)) (begun s m))

abbrev pub step_seen : Engine → Result Advanced Refusal → List ℕ → AfterStep
step_seen s (Ok r) m = step_answer 0 (advance_seen r m)
step_seen s (Err refusal) m = step_answer (number_of refusal) (begun s m)

-- a run: its answer's number, the steps taken, state and memory; a refusal leaves state and memory as they were, and takes no step
pub record AfterRun : Type 0 where
  pub answer : ℕ
  pub steps : ℕ
  pub engine : Engine
  pub memory : List ℕ

abbrev pub run_answer : ℕ → AfterWalk → AfterRun
run_answer n w = record { answer = n; steps = w.steps; engine = w.engine; memory = w.memory }

unfoldable pub run_of : ℕ → Engine → List ℕ → List ℕ → AfterRun
run_of most s m windows =
    let n = refusal_of s (length m) (length windows / 2) in
    run_answer n (when (eqb n 0) (walk_from most 0 (begun s m) (windows_of windows)) (after_steps 0 (begun s m)))

abbrev pub run_seen : Engine → Result Ran Refusal → List ℕ → AfterRun
run_seen s (Ok r) m = record { answer = 0; steps = r.steps; engine = r.engine; memory = m }
run_seen s (Err refusal) m = run_answer (number_of refusal) (after_steps 0 (begun s m))
