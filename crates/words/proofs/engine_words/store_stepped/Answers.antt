use mathlib.Core.Path.{sym}
use Rattle.words.proofs.Written.{written-stepped}
use Rattle.words.proofs.engine_words.store_stepped.Goals as goal

pub returns : goal.returns
returns c = cc (written-stepped c.args.words.now (sym c.told-words) c.args.engine)
