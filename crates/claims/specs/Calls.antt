-- The acts of specs/Transfers.antt are the engine's calls: none of their steps is refused, and a run is its steps.
use Rattle.std.specs.Prelude.{◌≡◌, ℕ, zero, suc, ◌^◌, ◌≤◌, ◌<◌, true, false, List, [], ◌∷◌, length}
use Rattle.kit.specs.Limits.{most_memory, most_windows, address_end}
use Rattle.kit.specs.Settings.{legal_of}
use Rattle.memory.specs.declared.window.Window.{Window}
use Rattle.state.specs.declared.engine.Engine.{Engine}
use Rattle.state.specs.State.{busy_of, well_formed_of}
use Rattle.steps.specs.Step.{begun, advance_of}
use Rattle.runs.specs.Run.{AfterWalk, walk_from, refusal_of}
use Rattle.steps.specs.Claims.{Bytes}
use Rattle.claims.specs.Transfers.{Act, step, write, read, act, after, steps, Own, left}

-- ---- no step is refused

-- what any caller lends and writes: bytes, no more of them and of windows than RULES.md allows, and 32-bit values
abbrev pub Proper : List Act → Type 0
Proper [] = Unit {0}
Proper (step m windows ∷ more) = Bytes m × (length m ≤ most_memory) × (length windows ≤ most_windows) × Proper more
Proper (write offset value ∷ more) = (value < 2 ^ 32) × Proper more
Proper (read offset ∷ more) = Proper more

-- a state that a caller can hold: legal settings, well formed, SA and DA of 32 bits
pub record Sound (s : Engine) : Type 0 where
  pub legal : legal_of s.settings ≡ true
  pub well : well_formed_of s ≡ true
  pub source : s.simple.sa < address_end
  pub destination : s.simple.da < address_end

-- no step along the acts is refused
abbrev pub Accepted : Engine → List Act → Type 0
Accepted s [] = Unit {0}
Accepted s (step m windows ∷ more) = (refusal_of s (length m) (length windows) ≡ 0) × Accepted (act s (step m windows)) more
Accepted s (write offset value ∷ more) = Accepted (act s (write offset value)) more
Accepted s (read offset ∷ more) = Accepted s more

-- from a sound state on, any acts at all: the state stays sound, and no step is refused
abbrev pub Accept : Type 0
Accept = (s : Engine) (acts : List Act) → Sound s → Proper acts → Accepted s acts × Sound (after s acts)

-- ---- a run is its steps

-- the steps of a run of at most n steps
unfoldable pub steps_of : ℕ → Engine → List ℕ → List Window → List Act
steps_of zero s m windows = []
steps_of (suc n) s m windows =
    elim (busy_of s.phase) [ true ↦ step m windows ∷ steps_of n (advance_of s m windows).engine (advance_of s m windows).memory windows | false ↦ [] ]

-- a run gives what its steps give, and only they touch the memory; each act is a step
pub record Ran (s : Engine) (m : List ℕ) (run : AfterWalk) (acts : List Act) : Type 0 where
  pub own : Own m s acts
  pub engine : run.engine ≡ after s acts
  pub memory : run.memory ≡ left m s acts
  pub count : run.steps ≡ steps acts
  pub steps-only : length acts ≡ steps acts

abbrev pub Run : Type 0
Run = (n : ℕ) (s : Engine) (m : List ℕ) (windows : List Window) → Ran s m (walk_from n 0 (begun s m) windows) (steps_of n s m windows)
