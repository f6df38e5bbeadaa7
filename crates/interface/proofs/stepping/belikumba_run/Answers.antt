use Rattle.interface.proofs.CallResults.{run-result}
use Rattle.interface.proofs.stepping.belikumba_run.Goals as goal

pub returns-in-Ok : goal.returns-in-Ok
returns-in-Ok c = let a = c.args in cc (run-result a.words.now a.memory.now a.windows.now _ c.from.result c.in-Ok.ensures)

pub returns-in-Err : goal.returns-in-Err
returns-in-Err c = let a = c.args in cc (run-result a.words.now a.memory.now a.windows.now _ c.from.result c.in-Err.ensures)
