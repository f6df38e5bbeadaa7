use native.Mathlib.Omega.{arith}
use lib.ListN.{length}
use Rattle.kit.proofs.Legal.{legal}
use Rattle.memory.specs.Windows.{windows_of}
use Rattle.state.proofs.WellFormed.{transfer-fits}
use Rattle.steps.proofs.Bursts.{BurstFits, bytes_fit, Fit}
use Rattle.moves.specs.Moves.{moved_to}
use Rattle.moves.proofs.Gliding.{gliding-begin, Turn, turn-fits, turn_inside, gliding-step}
use Rattle.fixed.proofs.GoodSides.{side-small, good_turn}
use Rattle.fixed.proofs.each.Goals as goal
use Rattle.fixed.proofs.each.Goals.{After-destination_side}

pub overflow_add-limit : goal.overflow_add-limit
overflow_add-limit c =
    let a = c.args in
    let f = transfer-fits a.moving.transfer a.moving.fits in
    omega (arith, side-small (length a.memory.now) (windows_of a.windows.now) a.moving.settings.width a.control.keyholeread a.moving.transfer.source a.moving.transfer.moved, f.total-small, f.moved-less)

pub loop-steps-init : goal.loop-steps-init
loop-steps-init c =
    let a = c.args in
    record {
      few = omega arith;
      sofar = gliding-begin a.moving.settings a.control.keyholeread a.control.keyholewrite a.moving.transfer (windows_of a.windows.now) a.memory.now a.moving.fits _;
    }

-- the burst that a turn moves
turn_at : (c : After-destination_side) →
    let a = c.args in
    Turn a.moving.settings a.control.keyholeread a.control.keyholewrite a.moving.transfer (windows_of a.windows.now) a.memory.now c.loop-steps.memory c.loop-steps.moved c.next_bytes-bytes.result
turn_at c =
    let v = c.loop-steps in
    let a = c.args in
    let e = c.next_bytes-bytes.ensures in
    let b = bytes_fit a.moving.settings a.control.keyholewrite (moved_to a.moving.transfer v.moved) a.moving.legal (v.invariant.sofar.fits (omega arith)) in
    good_turn a.moving.settings a.control.keyholeread a.control.keyholewrite a.moving.transfer (windows_of a.windows.now) a.memory.now a.moving.legal v.invariant.sofar
    (omega (arith, e, b.some)) e (omega arith)

-- it is some bytes of the transfer, and they lie in the memory
fits : (c : After-destination_side) → BurstFits (moved_to c.args.moving.transfer c.loop-steps.moved) c.next_bytes-bytes.result
fits c =
    let a = c.args in
    turn-fits a.moving.settings a.control.keyholeread a.control.keyholewrite a.moving.transfer (windows_of a.windows.now) a.memory.now a.moving.legal c.requires
    c.loop-steps.invariant.sofar (omega arith) (turn_at c)

inside : (c : After-destination_side) →
    let a = c.args in
    Fit a.moving.settings a.control.keyholeread a.control.keyholewrite (moved_to a.moving.transfer c.loop-steps.moved) (length c.loop-steps.memory) (windows_of a.windows.now) c.next_bytes-bytes.result
inside c =
    let a = c.args in
    turn_inside a.moving.settings a.control.keyholeread a.control.keyholewrite a.moving.transfer (windows_of a.windows.now) a.memory.now a.moving.legal c.requires
    c.loop-steps.invariant.sofar (omega arith) (turn_at c)

pub move_bytes-requires : goal.move_bytes-requires
move_bytes-requires c =
    let v = c.args.moving in
    let g = legal v.settings.width v.settings.beats v.legal in
    let here = (goal.at.move_bytes-requires c).After-destination_side in
    let b = fits here in
    let f = inside here in
    record {
      width_nonzero = (g.width_positive, g.width_small, b.some, b.page);
      inside = rw (c.source_side.ensures.fixed, c.source_side.ensures.start) f.source;
      inside_2 = rw (c.destination_side.ensures.fixed, c.destination_side.ensures.start) f.destination;
    }

pub overflow_add-moved-in-loop-steps : goal.overflow_add-moved-in-loop-steps
overflow_add-moved-in-loop-steps c =
    omega (arith, (fits (goal.at.overflow_add-moved-in-loop-steps c).After-destination_side).within, (transfer-fits c.args.moving.transfer c.args.moving.fits).total-small)

pub loop-steps-preserved : goal.loop-steps-preserved
loop-steps-preserved c =
    let a = c.args in
    let moved = rw (c.source_side.ensures.fixed, c.source_side.ensures.start, c.destination_side.ensures.fixed, c.destination_side.ensures.start) at c.move_bytes.ensures in
    record {
      few = omega arith;
      sofar = gliding-step a.moving.settings a.control.keyholeread a.control.keyholewrite a.moving.transfer (windows_of a.windows.now) a.memory.now a.moving.legal c.requires
          c.loop-steps.invariant.sofar (omega arith) (turn_at (goal.at.loop-steps-preserved c).After-destination_side) c.told_at-start.ensures moved;
    }
