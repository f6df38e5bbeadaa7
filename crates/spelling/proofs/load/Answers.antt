use Rattle.spelling.proofs.Engines.{spelled-engine, not-spelled}
use Rattle.spelling.proofs.load.Goals as goal

pub returns-then-not-spelled : goal.returns-then-not-spelled
returns-then-not-spelled c = not-spelled c.args.words.now (cc) (cc)

pub returns : goal.returns
returns c = spelled-engine c.args.words.now (cc) (cc)
