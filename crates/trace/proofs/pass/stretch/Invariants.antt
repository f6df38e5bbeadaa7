use Prim.Native.Nat.{◌+◌, ◌-◌, ◌*◌}
use lib.ListN.{length}
use Rattle.session.proofs.RecordTurns.{weight}
use Rattle.trace.proofs.Stretching.{Stretching}
use Rattle.trace.proofs.pass.stretch.Given as goal

abbrev pub invariant-loop-put : goal.invariant-loop-put
invariant-loop-put l =
    Stretching l.part.base l.part.input.now l.part.ended l.initial.session l.at-2 l.initial.memory l.initial.windows l.initial.out l.put-2 l.session l.at l.memory l.windows l.out l.put

abbrev pub decreases-loop-put : goal.decreases-loop-put
decreases-loop-put l = 3 * (length l.initial.out - l.put) + weight l.session.mode
