-- The claims of specs/Claims.antt.
use mathlib.Core.Path.{refl}
use Rattle.words.specs.Claims.{Words}
use Rattle.words.proofs.Engines.{stored_back, words-differ, read_back}

pub words : Words
words = record {
  engine-back = stored_back;
  engines-differ = words-differ;
  words_back = read_back;
  fresh-engine = λ settings. refl;
}
