-- include/belikumba.h, `belikumba_run`: two runs over an engine's words, with the same windows and nothing else that touches
-- words or memory between them, are one run.
use Rattle.std.specs.Prelude.{◌≡◌, ℕ, ◌+◌, List, [], ◌++◌}
use Rattle.steps.specs.Claims.{Bytes}
use Rattle.claims.specs.Events.{events_of}
use Rattle.words.specs.EngineWords.{engine_of}
use Rattle.interface.specs.Calls.{WordsAfterRun, run_words_of}

module _ (n k : ℕ) (w m windows : List ℕ) where
  -- a run of n, then a run of k on what it left, and in their place a run of n + k
  abbrev pub first : WordsAfterRun
  first = run_words_of n w m windows

  abbrev pub second : WordsAfterRun
  second = run_words_of k first.words first.memory windows

  abbrev pub whole : WordsAfterRun
  whole = run_words_of (n + k) w m windows

  -- as specs/Joined.antt of claims says it, of the engine that the words hold
  pub record JoinedWords : Type 0 where
    pub words : second.words ≡ whole.words
    pub memory : second.memory ≡ whole.memory
    pub events : events_of n (engine_of w) m windows ++ events_of k (engine_of first.words) first.memory windows ≡ events_of (n + k) (engine_of w) m windows
    pub steps : first.steps + second.steps ≡ whole.steps
    pub answer : first.answer ≡ whole.answer
    pub again : second.answer ≡ first.answer
    pub unchanged : (first.answer ≡ 0 → ⊥) → (whole.words ≡ w) × (whole.memory ≡ m) × (events_of (n + k) (engine_of w) m windows ≡ []) × (whole.steps ≡ 0)

abbrev pub JoinWords : Type 0
JoinWords = (n k : ℕ) (w m windows : List ℕ) → Bytes m → JoinedWords n k w m windows
