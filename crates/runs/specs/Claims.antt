-- What holds of every step and run that a caller asks for, whatever the state, the memory and the windows; proofs/ proves each.
use Rattle.std.specs.Prelude.{◌≡◌, ℕ, zero, suc, ◌/◌, ◌≤◌, true, false, List, length, Result}
use Rattle.kit.specs.declared.answer.Refusal.{Refusal}
use Rattle.kit.specs.Limits.{most_memory, most_windows}
use Rattle.kit.specs.Settings.{legal_of}
use Rattle.memory.specs.declared.window.Window.{Window}
use Rattle.memory.specs.Windows.{windows_of}
use Rattle.state.specs.declared.engine.Engine.{Engine}
use Rattle.state.specs.State.{busy_of, well_formed_of}
use Rattle.steps.specs.Step.{AfterAdvance, advance_of}
use Rattle.steps.specs.Claims.{Bytes}
use Rattle.steps.specs.declared.event.Advanced.{Advanced}
use Rattle.runs.specs.declared.run.Ran.{Ran}
use Rattle.runs.specs.Run.{refusal_of, AfterWalk, after_steps, walk_from, AfterStep, step_seen, step_answer, step_of, AfterRun, run_seen}

-- ---- refusals, judged once

-- what a call takes: not refused, and memory holds bytes
pub record Acceptable (s : Engine) (m : List ℕ) (windows : ℕ) : Type 0 where
  pub legal : legal_of s.settings ≡ true
  pub small : length m ≤ most_memory
  pub few : windows ≤ most_windows
  pub well : well_formed_of s ≡ true
  pub bytes : Bytes m

-- exactly then the refusal's number is 0
abbrev pub AcceptableUnrefused : Type 0
AcceptableUnrefused = (s : Engine) (m : List ℕ) (windows : ℕ) → Acceptable s m windows → refusal_of s (length m) windows ≡ 0

abbrev pub UnrefusedAcceptable : Type 0
UnrefusedAcceptable = (s : Engine) (m : List ℕ) (windows : ℕ) → refusal_of s (length m) windows ≡ 0 → Bytes m → Acceptable s m windows

-- what is acceptable is acceptable after a step too: a caller that steps on need not judge again
abbrev pub AdvanceAcceptable : Type 0
AdvanceAcceptable = (s : Engine) (m : List ℕ) (windows : List Window) (n : ℕ) → Acceptable s m n
    → Acceptable (advance_of s m windows).engine (advance_of s m windows).memory n

-- and a step that is not refused is `advance_of`
abbrev pub StepAdvances : Type 0
StepAdvances = (s : Engine) (m windows : List ℕ) → Acceptable s m (length windows / 2) → step_of s m windows ≡ step_answer 0 (advance_of s m (windows_of windows))

-- ---- a run is its steps

-- up to n calls of `step_of`, ended early if the engine is idle, i taken before
unfoldable pub steps_from : ℕ → ℕ → AfterAdvance → List ℕ → AfterWalk
steps_from zero i r windows = after_steps i r
steps_from (suc n) i r windows =
    let next = step_of r.engine r.memory windows in
    elim (busy_of r.engine.phase) [
      | true ↦ steps_from n (suc i) (record { event = next.event; engine = next.engine; memory = next.memory }) windows
      | false ↦ after_steps i r
    ]

abbrev pub WalkSteps : Type 0
WalkSteps = (n i : ℕ) (r : AfterAdvance) (windows : List ℕ) → Acceptable r.engine r.memory (length windows / 2)
    → walk_from n i r (windows_of windows) ≡ steps_from n i r windows

-- ---- two results that one contract allows are equal, and so are the memories they leave

abbrev pub StepUnique : Type 0
StepUnique = (s : Engine) (p q : Result Advanced Refusal) (a b : List ℕ) (x : AfterStep) → step_seen s p a ≡ x → step_seen s q b ≡ x → (p ≡ q) × (a ≡ b)

abbrev pub RunUnique : Type 0
RunUnique = (s : Engine) (p q : Result Ran Refusal) (a b : List ℕ) (x : AfterRun) → run_seen s p a ≡ x → run_seen s q b ≡ x → (p ≡ q) × (a ≡ b)
