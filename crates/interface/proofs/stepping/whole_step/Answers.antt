use Rattle.interface.proofs.CallResults.{step-result}
use Rattle.interface.proofs.stepping.whole_step.Goals as goal

pub returns-in-Ok : goal.returns-in-Ok
returns-in-Ok c = let a = c.args in step-result a.words.now a.memory.now a.windows.now _ c.in-Ok.ensures c.step_report.ensures

pub returns-in-Err : goal.returns-in-Err
returns-in-Err c = let a = c.args in step-result a.words.now a.memory.now a.windows.now _ c.in-Err.ensures (cc)
