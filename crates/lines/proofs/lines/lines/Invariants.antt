use mathlib.Core.Path.{◌≡◌}
use Prim.Native.Nat.{◌-◌}
use lib.ListN.{length}
use Rattle.lines.proofs.Telling.{Telling}
use Rattle.lines.proofs.lines.lines.Given as goal

abbrev pub invariant-loop-put : goal.invariant-loop-put
invariant-loop-put l =
    Telling l.session l.at l.initial.memory l.windows l.initial.out l.put-2 l.accepted l.engine l.left l.taken l.memory l.out l.put × (l.engine.settings ≡ l.settings) × (l.engine.simple ≡ l.simple)

abbrev pub decreases-loop-put : goal.decreases-loop-put
decreases-loop-put l = length l.initial.out - l.put
