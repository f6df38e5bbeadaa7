-- The windows that a table takes give the look-up over all windows.
use Rattle.windows.proofs.FirstWindows.{locate-fewer}
use Rattle.windows.proofs.lookup.locate.Goals as goal

pub returns : goal.returns
returns c = let a = c.args in cc (locate-fewer a.windows.now a.size a.start a.bytes)
