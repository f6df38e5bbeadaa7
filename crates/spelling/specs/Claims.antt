-- include/belikumba.h: which words are an engine's, told word by word. Proved in proofs/Claims.antt.
use Rattle.std.specs.Prelude.{ℕ, ◌≡◌, ◌&&◌, List, eqb}
use Rattle.state.specs.State.{well_formed_of}
use Rattle.words.specs.EngineWords.{word, words_of, engine_from, same_words, engine_of}
use Rattle.spelling.specs.Spelling.{spelled_of, sound_of, moves_of}

pub record Spelling : Type 0 where
  -- an engine's words are those that read back as they are
  pub spelled : (w : List ℕ) → spelled_of w ≡ same_words w (words_of (engine_from w))
  -- a well-formed engine's, those whose engine is well formed
  pub sound : (w : List ℕ) → sound_of w ≡ well_formed_of (engine_of w)
  -- an engine's in the midst of a transfer, those of a well-formed one whose phase is a move
  pub moves : (w : List ℕ) → moves_of w ≡ (sound_of w && eqb (word w 15) 2)
