-- The claim of specs/JoinedWords.antt: what holds of two runs of an engine holds of its words.
use mathlib.Core.Path.{◌≡◌, refl, sym, ap, ap₂, ◌∙◌}
use Prim.Native.Nat.{ℕ, ◌+◌}
use mathlib.Core.Bool.{Bool, true, false}
use mathlib.Core.List.{List, ◌++◌}
use lib.Dec.{eqb}
use borrow.Author.Tests.{eq-eqb, ne_eqb}
use Rattle.kit.specs.Choice.{when}
use Rattle.kit.proofs.Choice.{yes, no}
use Rattle.state.specs.declared.engine.Engine.{Engine}
use Rattle.runs.specs.Run.{AfterRun, run_of}
use Rattle.words.specs.EngineWords.{words_of, engine_of}
use Rattle.words.proofs.Claims.{words}
use Rattle.claims.specs.Events.{events_of}
use Rattle.interface.specs.Calls.{WordsAfterRun, words_after, words_after_run, run_words_of}
use Rattle.callers.specs.JoinedWords.{JoinWords}
use Rattle.claims.proofs.Joined.{join}
use Rattle.claims.proofs.Judged.{Judged, bars, goes, judged}

-- a choice within the same choice
chosen : (t : Bool) (x y z : List ℕ) → when t x (when t y z) ≡ when t x z
chosen true x y z = refl
chosen false x y z = refl

-- the words that a run leaves hold the engine that it left
holds : (n : ℕ) (w m windows : List ℕ) → engine_of (run_words_of n w m windows).words ≡ (run_of n (engine_of w) m windows).engine
holds n w m windows = go (judged (engine_of w) m windows)
  where
    r : AfterRun
    r = run_of n (engine_of w) m windows

    go : Judged (engine_of w) m windows → engine_of (words_after r.answer r.engine w) ≡ r.engine
    go (bars z d) = ap engine_of (sym (no (words_of r.engine) (ne_eqb r.answer 0 (λ e. z (sym (d n).answer ∙ e))) refl)) ∙ sym (d n).engine
    go (goes e d) = ap engine_of (sym (yes w (eq-eqb r.answer 0 ((d n).answer ∙ e)) refl)) ∙ words.engine-back r.engine

pub join-words : JoinWords
join-words n k w m windows bytes =
    let r = run_of n (engine_of w) m windows in
    let j = join n k (engine_of w) m windows bytes in
    let whole = run_of (n + k) (engine_of w) m windows in
    let left = (run_words_of n w m windows).words in
    let second = ap (λ (s : Engine). words_after_run (run_of k s r.memory windows) left) (holds n w m windows) in
    record {
      words = ap (λ (x : WordsAfterRun). x.words) second ∙ ap₂ (λ (a : ℕ) (s : Engine). words_after a s left) j.again j.engine
          ∙ chosen (eqb r.answer 0) (words_of whole.engine) (words_of r.engine) w ∙ ap (λ (a : ℕ). words_after a whole.engine w) j.answer;
      memory = ap (λ (x : WordsAfterRun). x.memory) second ∙ j.memory;
      events = ap (λ (s : Engine). events_of n (engine_of w) m windows ++ events_of k s r.memory windows) (holds n w m windows) ∙ j.events;
      steps = ap (λ (x : WordsAfterRun). r.steps + x.steps) second ∙ j.steps;
      answer = j.answer;
      again = ap (λ (x : WordsAfterRun). x.answer) second ∙ j.again;
      unchanged = λ z.
          let (engine, memory, events, steps) = j.unchanged z in
          (sym (no (words_of whole.engine) (ne_eqb whole.answer 0 (λ e. z (j.answer ∙ e))) refl), memory, events, steps);
    }
