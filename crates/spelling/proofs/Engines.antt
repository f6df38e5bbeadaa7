-- The engine of any words, by the tests.
use mathlib.Core.Path.{◌≡◌, refl, sym, ap, subst, ◌∙◌}
use Prim.Native.Nat.{ℕ}
use mathlib.Core.Bool.{true, false}
use mathlib.Core.List.{List}
use mathlib.Core.Logic.{◌⊎◌, inl, inr}
use Rattle.kit.proofs.Choice.{yes, no, cases, never}
use Rattle.state.specs.declared.engine.Engine.{Engine}
use Rattle.state.specs.State.{well_formed_of}
use Rattle.words.specs.EngineWords.{words_of, settings_from, engine_from, same_words, ill_formed_of, engine_of}
use Rattle.words.proofs.Engines.{read_back}
use Rattle.spelling.specs.Spelling.{spelled_of, sound_of}
use Rattle.spelling.proofs.Listed.{same_truth, spelled_same, sound-spelled, sound-words}

module _ (w : List ℕ) where
  -- words that are spelled are those of the engine they spell, others of none
  pub spelled-engine : {s : Engine} → spelled_of w ≡ true → s ≡ engine_from w → s ≡ engine_of w
  unfolding engine_of
  spelled-engine e f = yes (ill_formed_of (settings_from w)) (sym (spelled_same w) ∙ e) f

  pub not-spelled : {s : Engine} → spelled_of w ≡ false → s ≡ ill_formed_of (settings_from w) → s ≡ engine_of w
  unfolding engine_of
  not-spelled e f = no (engine_from w) (sym (spelled_same w) ∙ e) f

  pub engine-settings : (engine_of w).settings ≡ settings_from w
  unfolding engine_of
  engine-settings = cases (λ (s : Engine). s.settings ≡ settings_from w) (same_words w (words_of (engine_from w))) (λ _. refl) (λ _. refl)

  -- words that are sound spell their engine
  pub sound-engine : sound_of w ≡ true → engine_of w ≡ engine_from w
  sound-engine e = sym (spelled-engine (sound-spelled w e).0 refl)

  -- words are sound if their engine is well formed, and only then
  pub sound-well-formed : sound_of w ≡ well_formed_of (engine_of w)
  sound-well-formed = same_truth (sound_of w) (well_formed_of (engine_of w)) well (λ e. sound e (read_back w))
    where
      well : sound_of w ≡ true → well_formed_of (engine_of w) ≡ true
      well e = ap (λ (s : Engine). well_formed_of s) (sound-engine e) ∙ (sound-spelled w e).1

      sound : well_formed_of (engine_of w) ≡ true → (words_of (engine_of w) ≡ w) ⊎ (well_formed_of (engine_of w) ≡ false) → sound_of w ≡ true
      sound e (inl back) = subst (λ (l : List ℕ). sound_of l ≡ true) back (sound-words (engine_of w) e)
      sound e (inr ill) = absurd (never (sym ill ∙ e))
