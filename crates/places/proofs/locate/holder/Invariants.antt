use mathlib.Core.Path.{◌≡◌}
use Prim.Native.Nat.{◌+◌, ◌*◌}
use lib.ListN.{length}
use Rattle.memory.specs.Windows.{windows_of}
use Rattle.places.specs.Places.{holder_of}
use Rattle.places.proofs.locate.holder.Given as goal

-- The first window that holds a byte meets its contract. Invariant: the windows passed, and the first of those left, number it.
abbrev pub invariant-loop-number : goal.invariant-loop-number
invariant-loop-number l =
    let left = l.number-iterator.iter in
    let passed = l.number-iterator.count in
    (left.size ≡ 2)
    × (2 * passed + length left.rest.now ≡ length l.windows)
    × (passed + holder_of (windows_of left.rest.now) l.address ≡ holder_of (windows_of l.windows) l.address)
