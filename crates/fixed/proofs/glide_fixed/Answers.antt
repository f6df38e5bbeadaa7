-- Pieces moved as one, or bursts one after the other.
use Prim.Native.Nat.{◌+◌, ◌*◌}
use native.Mathlib.Omega.{arith}
use Rattle.kit.proofs.Legal.{legal}
use Rattle.memory.specs.Windows.{windows_of}
use Rattle.steps.proofs.Bursts.{bytes_fit}
use Rattle.fixed.proofs.Leaping.{Leap, leap}
use Rattle.fixed.proofs.glide_fixed.Goals as goal
use Rattle.fixed.proofs.glide_fixed.Goals.{After-next_bytes-bytes}

-- the pieces that are moved
leap-at : (c : After-next_bytes-bytes) →
    let a = c.args in
    let n = c.next_bytes-bytes.result in
    let steps = c.in-Some.steps in
    Leap a.moving.settings a.control.keyholeread a.control.keyholewrite a.moving.transfer (windows_of a.windows.now) a.memory.now n (a.moving.transfer.moved + steps * n) steps
leap-at c =
    let a = c.args in
    let ahead = c.in-Some in
    leap a.moving.settings a.control.keyholeread a.control.keyholewrite a.moving.transfer (windows_of a.windows.now) a.memory.now c.args.moving.legal c.requires c.args.moving.fits
    a.most ahead.steps c.next_bytes-bytes.result ahead.ensures.some ahead.ensures.ahead c.next_bytes-bytes.ensures

pub move_bytes-requires : goal.move_bytes-requires
move_bytes-requires c =
    let a = c.args in
    let g = legal a.moving.settings.width a.moving.settings.beats c.args.moving.legal in
    let b = bytes_fit a.moving.settings a.control.keyholewrite a.moving.transfer c.args.moving.legal c.args.moving.fits in
    let e = c.next_bytes-bytes.ensures in
    let f = (leap-at (goal.at.move_bytes-requires c).After-next_bytes-bytes).inside in
    record {
      width_nonzero = (g.width_positive, g.width_small, omega (arith, e, b.some), omega (arith, e, b.page));
      inside = rw (c.source_side.ensures.fixed, c.source_side.ensures.start) f.source;
      inside_2 = rw (c.destination_side.ensures.fixed, c.destination_side.ensures.start) f.destination;
    }

pub returns-clause-glides : goal.returns-clause-glides
returns-clause-glides c =
    let moved = rw (c.source_side.ensures.fixed, c.source_side.ensures.start, c.destination_side.ensures.fixed, c.destination_side.ensures.start) at c.move_bytes.ensures in
    ((leap-at (goal.at.returns-clause-glides c).After-next_bytes-bytes).glides moved).reaches
