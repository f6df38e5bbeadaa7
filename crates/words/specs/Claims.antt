-- include/belikumba.h: what a caller's words promise. Proved in proofs/Claims.antt.
use Rattle.std.specs.Prelude.{ℕ, ◌≡◌, false, ◌⊎◌, List, ◌∷◌, replicate}
use Rattle.kit.specs.declared.settings.Settings.{Settings}
use Rattle.state.specs.declared.engine.Engine.{Engine}
use Rattle.state.specs.State.{fresh_of, well_formed_of}
use Rattle.words.specs.EngineWords.{words_of, engine_of}

pub record Words : Type 0 where
  -- what is stored reads back as the same engine, so two engines have different words
  pub engine-back : (s : Engine) → engine_of (words_of s) ≡ s
  pub engines-differ : (s t : Engine) → words_of s ≡ words_of t → s ≡ t
  -- words that are not those of the engine read from them make one that is not well formed
  pub words_back : (w : List ℕ) → (words_of (engine_of w) ≡ w) ⊎ (well_formed_of (engine_of w) ≡ false)
  -- a fresh engine's words are its settings and zeros
  pub fresh-engine : (settings : Settings) → words_of (fresh_of settings) ≡ settings.width ∷ settings.beats ∷ replicate 20 0
