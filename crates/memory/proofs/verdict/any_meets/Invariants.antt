use mathlib.Core.Path.{◌≡◌}
use Prim.Native.Nat.{◌+◌}
use Rattle.kit.specs.Choice.{either}
use Rattle.memory.specs.Windows.{windows_of}
use Rattle.memory.specs.Interval.{hit}
use Rattle.memory.proofs.verdict.any_meets.Given as goal

-- The look at the windows meets its contract. Invariant: what was met, and the windows not yet looked at, decide what all decide.
abbrev pub invariant-loop-pair : goal.invariant-loop-pair
invariant-loop-pair l =
    (l.pair-iterator.size ≡ 2)
    × (either l.met (either (hit (windows_of l.pair-iterator.rest.now) l.first (l.first + l.bytes)) (hit (windows_of l.pair-iterator.rest.now) l.second (l.second + l.bytes)))
    ≡ either (hit (windows_of l.windows) l.first (l.first + l.bytes)) (hit (windows_of l.windows) l.second (l.second + l.bytes)))
