use mathlib.Core.Path.{refl}
use Rattle.runs.proofs.Entries.{step-taken}
use Rattle.runs.proofs.run.step.Goals as goal

pub returns : goal.returns
returns c = let a = c.args in step-taken a.engine a.memory.now a.windows.now c.in_ok-refusal.ensures refl c.walk-walked.ensures
