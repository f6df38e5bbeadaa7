use Prim.Native.Nat.{◌-◌}
use lib.ListN.{length}
use Rattle.session.proofs.Midst.{Midst}
use Rattle.watch.specs.Judged.{clock_body}
use Rattle.watch.proofs.Clocking.{clocking}
use Rattle.watch.proofs.clocks.Given as goal

abbrev pub invariant-loop-clocked : goal.invariant-loop-clocked
invariant-loop-clocked l =
    Midst l.part.base l.part.input.now l.part.ended l.session l.at-2 l.initial.out l.put-2 (clocking l.session l.monitor l.before) l.sequence (clock_body l.bits l.clock) l.at l.next l.out l.put

abbrev pub decreases-loop-clocked : goal.decreases-loop-clocked
decreases-loop-clocked l = length l.part.input.now - l.at
