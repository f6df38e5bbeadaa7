-- RULES.md, "Descriptor and steps": runs one after the other, with the same windows and nothing else that touches state or
-- memory between them, are one run. A caller asks for at most 65,535 steps at once; what is stated here needs no such limit.
use Rattle.std.specs.Prelude.{◌≡◌, ℕ, ◌+◌, List, [], ◌∷◌, ◌++◌, length, replicate}
use Rattle.state.specs.declared.engine.Engine.{Engine}
use Rattle.steps.specs.declared.event.Event.{Event}
use Rattle.steps.specs.Claims.{Bytes}
use Rattle.runs.specs.Run.{AfterRun, run_of}
use Rattle.claims.specs.Events.{events_of}

-- ---- two runs

module _ (n k : ℕ) (s : Engine) (m windows : List ℕ) where
  -- a run of n, then a run of k on what it left, and in their place a run of n + k
  abbrev pub first : AfterRun
  first = run_of n s m windows

  abbrev pub second : AfterRun
  second = run_of k first.engine first.memory windows

  abbrev pub whole : AfterRun
  whole = run_of (n + k) s m windows

  abbrev pub first_events : List Event
  first_events = events_of n s m windows

  abbrev pub second_events : List Event
  second_events = events_of k first.engine first.memory windows

  abbrev pub whole_events : List Event
  whole_events = events_of (n + k) s m windows

  -- the two have the state, memory, events and sum of steps of the whole; all three have one answer; a refused whole has
  -- changed nothing, taken no step and has no event
  pub record Joined : Type 0 where
    pub engine : second.engine ≡ whole.engine
    pub memory : second.memory ≡ whole.memory
    pub events : first_events ++ second_events ≡ whole_events
    pub steps : first.steps + second.steps ≡ whole.steps
    pub answer : first.answer ≡ whole.answer
    pub again : second.answer ≡ first.answer
    pub unchanged : (first.answer ≡ 0 → ⊥) → (whole.engine ≡ s) × (whole.memory ≡ m) × (whole_events ≡ []) × (whole.steps ≡ 0)

-- memory holds bytes, as any memory that a caller lends does
abbrev pub Join : Type 0
Join = (n k : ℕ) (s : Engine) (m windows : List ℕ) → Bytes m → Joined n k s m windows

-- ---- any number of runs

-- what runs leave, each on what the one before left: the answer of each, all their events in order, the sum of their
-- steps, and the last state and memory
pub record AfterRuns : Type 0 where
  pub answers : List ℕ
  pub events : List Event
  pub steps : ℕ
  pub engine : Engine
  pub memory : List ℕ

-- runs of at most so many steps each
abbrev pub runs_of : List ℕ → Engine → List ℕ → List ℕ → AfterRuns
runs_of [] s m windows = record { answers = []; events = []; steps = 0; engine = s; memory = m }
runs_of (n ∷ more) s m windows =
    let now = run_of n s m windows in
    let later = runs_of more now.engine now.memory windows in
    record {
      answers = now.answer ∷ later.answers;
      events = events_of n s m windows ++ later.events;
      steps = now.steps + later.steps;
      engine = later.engine;
      memory = later.memory;
    }

abbrev pub sum : List ℕ → ℕ
sum [] = 0
sum (n ∷ more) = n + sum more

-- in their place one run of the sum: each of them has its answer
abbrev pub JoinAll : Type 0
JoinAll = (budgets : List ℕ) (s : Engine) (m windows : List ℕ) → Bytes m
    → let one = run_of (sum budgets) s m windows in
    runs_of budgets s m windows ≡ record {
      answers = replicate (length budgets) one.answer;
      events = events_of (sum budgets) s m windows;
      steps = one.steps;
      engine = one.engine;
      memory = one.memory;
    }
