-- The windows that a table takes give the run over all windows.
use Rattle.windows.proofs.FirstWindows.{run-fewer}
use Rattle.windows.proofs.entries.run.Goals as goal

pub returns : goal.returns
returns c = let a = c.args in cc (run-fewer a.windows.now a.most a.engine a.memory.now)
