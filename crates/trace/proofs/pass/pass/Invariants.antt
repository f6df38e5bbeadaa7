use Prim.Native.Nat.{◌+◌, ◌-◌, ◌*◌}
use lib.ListN.{length}
use Rattle.session.specs.Effect.{lend}
use Rattle.session.proofs.Passing.{Passing}
use Rattle.session.proofs.RecordTurns.{weight}
use Rattle.trace.proofs.pass.pass.Given as goal

abbrev pub invariant-loop-put : goal.invariant-loop-put
invariant-loop-put l =
    Passing (length l.initial.out) l.part.base l.part.input.now l.part.ended l.initial.session 0 (lend l.initial.memory l.initial.windows l.initial.other) l.initial.out 0 l.session l.at (lend l.memory l.windows l.other) l.out l.put

abbrev pub decreases-loop-put : goal.decreases-loop-put
decreases-loop-put l = 3 * (length l.initial.out - l.put) + weight l.session.mode
