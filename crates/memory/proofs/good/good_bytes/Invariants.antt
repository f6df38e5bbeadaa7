use mathlib.Core.Path.{◌≡◌}
use Rattle.memory.specs.Windows.{windows_of}
use Rattle.memory.specs.Good.{good_end}
use Rattle.memory.proofs.good.good_bytes.Given as goal

-- The good bytes meet their contract. Invariant: the windows not yet looked at bring the end to where all bring it.
abbrev pub invariant-loop-pair : goal.invariant-loop-pair
invariant-loop-pair l =
    (l.pair-iterator.size ≡ 2)
    × (good_end (windows_of l.pair-iterator.rest.now) l.start l.end ≡ good_end (windows_of l.windows) l.start l.initial.end)
