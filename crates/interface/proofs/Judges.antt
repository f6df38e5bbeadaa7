-- The refusal of a step or a run over the words, test by test, and what holds where there is none.
use mathlib.Core.Path.{◌≡◌, refl, sym, ap, subst, ◌∙◌}
use Prim.Native.Nat.{ℕ, ◌≤◌, ◌<◌}
use mathlib.Core.Bool.{true, false}
use mathlib.Core.List.{List}
use lib.ListN.{length}
use borrow.Author.Tests.{lt-ltb, le-ltb}
use Rattle.kit.specs.Limits.{most_memory, most_windows}
use Rattle.kit.specs.Settings.{legal_of}
use Rattle.kit.specs.declared.settings.Settings.{Settings}
use Rattle.kit.proofs.Choice.{yes, no}
use Rattle.state.specs.declared.engine.Engine.{Engine}
use Rattle.state.specs.State.{well_formed_of}
use Rattle.memory.specs.declared.window.Window.{Window}
use Rattle.steps.specs.Step.{begun}
use Rattle.steps.specs.Claims.{Bytes, Lasts}
use Rattle.runs.specs.declared.walk.Walked.{Walked}
use Rattle.runs.specs.Run.{refusal_of, AfterWalk, walk_from, walk_seen}
use Rattle.runs.specs.Claims.{Acceptable}
use Rattle.runs.proofs.Acceptable.{unrefused-acceptable}
use Rattle.runs.proofs.Walks.{walk-lasts}
use Rattle.words.specs.EngineWords.{words_of, stepped_words_of, settings_from, engine_from, engine_of}
use Rattle.spelling.specs.Spelling.{sound_of}
use Rattle.spelling.proofs.Listed.{kept, sound-spelled}
use Rattle.words.proofs.Engines.{stepped-words}
use Rattle.spelling.proofs.Engines.{engine-settings, sound-engine, sound-well-formed}

module _ (w : List ℕ) (size windows : ℕ) where
  legal-words : legal_of (engine_of w).settings ≡ legal_of (settings_from w)
  legal-words = ap (λ (x : Settings). legal_of x) (engine-settings w)

  pub words-settings : legal_of (settings_from w) ≡ false → 1 ≡ refusal_of (engine_of w) size windows
  unfolding refusal_of
  words-settings l = no _ (legal-words ∙ l) refl

  module _ (l : legal_of (settings_from w) ≡ true) where
    pub words-memory : most_memory < size → 2 ≡ refusal_of (engine_of w) size windows
    unfolding refusal_of
    words-memory h = yes _ (legal-words ∙ l) (yes _ (lt-ltb most_memory size h) refl)

    module _ (h : size ≤ most_memory) where
      pub words-windows : most_windows < windows → 6 ≡ refusal_of (engine_of w) size windows
      unfolding refusal_of
      words-windows k = yes _ (legal-words ∙ l) (no _ (le-ltb most_memory size h) (yes _ (lt-ltb most_windows windows k) refl))

      module _ (k : windows ≤ most_windows) where
        pub words-state : sound_of w ≡ false → 9 ≡ refusal_of (engine_of w) size windows
        unfolding refusal_of
        words-state s =
            yes _ (legal-words ∙ l) (no _ (le-ltb most_memory size h) (no _ (le-ltb most_windows windows k) (no _ (sym (sound-well-formed w) ∙ s) refl)))

        pub words-done : sound_of w ≡ true → 0 ≡ refusal_of (engine_of w) size windows
        unfolding refusal_of
        words-done s =
            yes _ (legal-words ∙ l) (no _ (le-ltb most_memory size h) (no _ (le-ltb most_windows windows k) (yes _ (sym (sound-well-formed w) ∙ s) refl)))

-- words that are not refused spell their engine, which a walk takes
pub record Accepted (w m : List ℕ) (windows : ℕ) : Type 0 where
  pub engine : engine_of w ≡ engine_from w
  pub words : words_of (engine_from w) ≡ w
  pub acceptable : Acceptable (engine_from w) m windows

pub accepted : (w m : List ℕ) (windows : ℕ) → refusal_of (engine_of w) (length m) windows ≡ 0 → Bytes m → Accepted w m windows
accepted w m windows e bytes =
    let a = unrefused-acceptable (engine_of w) m windows e bytes in
    let sound = sound-well-formed w ∙ a.well in
    let same = sound-engine w sound in
    record {
      engine = same;
      words = kept w (sound-spelled w sound).0;
      acceptable = record {
        legal = sym (ap (λ (s : Engine). legal_of s.settings) same) ∙ a.legal;
        small = a.small;
        few = a.few;
        well = sym (ap (λ (s : Engine). well_formed_of s) same) ∙ a.well;
        bytes = bytes;
      };
    }

-- what is stored after their steps is the engine that these left
pub stored-steps : (w m : List ℕ) (windows : List Window) {n : ℕ} (most : ℕ) (r : Walked) {after : List ℕ} → Accepted w m n
    → walk_seen r after ≡ walk_from most 0 (begun (engine_from w) m) windows → stepped_words_of r.engine w ≡ words_of r.engine
stored-steps w m windows most r a e =
    let k = subst (λ (x : AfterWalk). Lasts (engine_from w) x.engine) (sym e) (walk-lasts most 0 (begun (engine_from w) m) windows) in
    ap (λ (v : List ℕ). stepped_words_of r.engine v) (sym a.words) ∙ stepped-words (engine_from w) r.engine k.settings k.control k.tail k.simple
