use mathlib.Core.Path.{◌≡◌}
use mathlib.Core.Bool.{true}
use mathlib.Core.List.{List}
use Prim.Native.Nat.{ℕ, ◌+◌, ◌-◌, ◌≤◌, ◌<◌}
use lib.ListN.{length}
use lib.Seq.{sets}
use Rattle.sides.specs.Sides.{place_of, side_read}
use Rattle.sides.proofs.Places.{Period}
use Rattle.sides.proofs.burst.fill.Given as goal

-- The burst from a fixed word meets its contract. Invariant: what was written are the first bytes of the burst, and what follows repeats them.
abbrev pub invariant-loop-done : goal.invariant-loop-done
invariant-loop-done l =
    (0 < l.done)
    × (l.done ≤ l.count)
    × (l.done < l.count → Period (place_of true l.width l.source) l.done)
    × (length l.memory ≡ length l.initial.memory)
    × (l.to + l.count ≤ length l.memory)
    × ((s : List ℕ) → l.initial.memory ≡ sets s l.to (side_read s (place_of true l.width l.source) l.from l.initial.done)
    → l.memory ≡ sets s l.to (side_read s (place_of true l.width l.source) l.from l.done))

abbrev pub decreases-loop-done : goal.decreases-loop-done
decreases-loop-done l = l.count - l.done
