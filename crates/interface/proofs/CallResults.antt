-- What a call leaves, from what its parts do.
use mathlib.Core.Path.{◌≡◌, refl, sym, ap, ap₂, ◌∙◌}
use Prim.Native.Nat.{ℕ, ◌/◌}
use mathlib.Core.Bool.{Bool, true, false}
use mathlib.Core.List.{List}
use lib.ListN.{length}
use lib.Dec.{eqb}
use Rattle.std.specs.Prelude.{Ok}
use Rattle.kit.specs.Choice.{when}
use Rattle.kit.proofs.Choice.{yes}
use Rattle.memory.specs.Windows.{windows_of}
use Rattle.steps.specs.Step.{AfterAdvance, begun, advance_of}
use Rattle.runs.specs.declared.walk.Walked.{Walked}
use Rattle.runs.specs.Run.{refusal_of, AfterWalk, after_steps, walk_from, walk_seen, step_answer, step_of, run_of}
use Rattle.runs.proofs.Entries.{unstepped, one-step}
use Rattle.interface.specs.declared.stepping.SteppedForC.{SteppedForC}
use Rattle.words.specs.EngineWords.{words_of, engine_of}
use Rattle.interface.specs.Calls.{WordsAfterWalk, walk_words_seen, words_after_walk, walk_words_of, step_report_of, step_words_seen, words_after_step, step_words_of, run_words_seen, run_words_of}

-- some steps that are taken
pub walk-taken : (most : ℕ) (w m windows : List ℕ) (r : Walked) {left after : List ℕ} → 0 ≡ refusal_of (engine_of w) (length m) (length windows / 2)
    → walk_seen r after ≡ walk_from most 0 (begun (engine_of w) m) (windows_of windows) → left ≡ words_of r.engine
    → walk_words_seen (Ok (record { event = r.event; steps = r.steps })) left after ≡ walk_words_of most w m windows
walk-taken most w m windows r {after = after} e f l =
    ap (λ (v : List ℕ). walk_words_seen (Ok (record { event = r.event; steps = r.steps })) v after) l
    ∙ ap₂ (λ (k : ℕ) (x : AfterWalk). words_after_walk k x w) e (yes (after_steps 0 (begun (engine_of w) m)) (ap (λ (k : ℕ). eqb k 0) (sym e)) f)

-- a step is a walk of one, and a run is a walk
module _ (w m windows : List ℕ) (x : WordsAfterWalk) where
  pub step-result : x ≡ walk_words_of 1 w m windows → {t : SteppedForC} → t ≡ step_report_of x.answer x.event
      → step_words_seen t x.words x.memory ≡ step_words_of w m windows
  unfolding step_of
  step-result e told =
      let s = engine_of w in
      let n = refusal_of s (length m) (length windows / 2) in
      ap (λ (t : SteppedForC). step_words_seen t x.words x.memory) told
      ∙ ap (λ (y : WordsAfterWalk). step_words_seen (step_report_of y.answer y.event) y.words y.memory) e
      ∙ ap (λ (y : AfterAdvance). words_after_step (step_answer n y) w) (one (eqb n 0))
    where
      one : (t : Bool) → unstepped (when t (walk_from 1 0 (begun (engine_of w) m) (windows_of windows)) (after_steps 0 (begun (engine_of w) m))) ≡ when t (advance_of (engine_of w) m (windows_of windows)) (begun (engine_of w) m)
      one true = one-step (engine_of w) m (windows_of windows)
      one false = refl

  pub run-result : (most : ℕ) → x ≡ walk_words_of most w m windows
      → run_words_seen (record { answer = x.answer; steps = x.steps }) x.words x.memory ≡ run_words_of most w m windows
  unfolding run_of
  run-result most e = ap (λ (y : WordsAfterWalk). run_words_seen (record { answer = y.answer; steps = y.steps }) y.words y.memory) e
