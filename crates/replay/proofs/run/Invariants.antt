use Prim.Native.Nat.{◌-◌}
use Rattle.replay.proofs.Whole.{Runs}
use Rattle.replay.proofs.run.Given as goal

abbrev pub invariant-loop : goal.invariant-loop
invariant-loop l = Runs l.memory l.windows l.buffer l.flow (140737488355328 - l.counter)
