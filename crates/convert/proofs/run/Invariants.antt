use Rattle.convert.proofs.Whole.{Runs}
use Rattle.convert.proofs.run.Given as goal

abbrev pub invariant-loop : goal.invariant-loop
invariant-loop l = Runs l.state l.buffer
