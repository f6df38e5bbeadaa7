-- The windows that a table takes give the step over all windows.
use Rattle.windows.proofs.FirstWindows.{step_fewer}
use Rattle.windows.proofs.entries.step.Goals as goal

pub returns : goal.returns
returns c = let a = c.args in cc (step_fewer a.windows.now a.engine a.memory.now)
