use mathlib.Core.Path.{sym}
use Rattle.words.proofs.Written.{written-whole}
use Rattle.words.proofs.engine_words.store.Goals as goal

pub returns : goal.returns
returns c = cc (written-whole c.args.words.now (sym c.told-words) c.args.engine)
