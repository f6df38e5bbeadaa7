-- The look at each window, and the verdict that follows from it.
use Rattle.std.proofs.Common.{arith}
use Rattle.windows.proofs.Looks.{judged}
use Rattle.windows.proofs.lookup.judge.Goals as goal

pub returns : goal.returns
returns c = let a = c.args in cc (judged a.size a.windows.now a.start a.bytes (omega arith))
