use mathlib.Core.Path.{refl, sym, ap, ◌∙◌}
use Prim.Native.Nat.{◌+◌, ◌≤◌}
use native.Mathlib.Omega.{arith}
use Rattle.listing.proofs.Lines.{line-most}
use Rattle.digits.proofs.Puts.{puts-length}
use Rattle.session.specs.Effect.{bad_of, clock_line_of, under_way}
use Rattle.session.specs.Pass.{line_room}
use Rattle.session.proofs.Following.{on_room}
use Rattle.session.proofs.Midst.{midst-begin, midst-inside, midst-turn, midst-last}
use Rattle.watch.proofs.Clocking.{clocking, clocked_of, as-refused, as-taken, clock-order}
use Rattle.watch.proofs.clocks.Goals as goal
use Rattle.watch.proofs.clocks.Goals.{After-put_quick_line-put}

pub loop-clocked-init : goal.loop-clocked-init
loop-clocked-init c = midst-begin c.requires.in_order c.requires.put_in_bounds

pub returns-in-Err : goal.returns-in-Err
returns-in-Err c =
    let a = c.args in
    let v = c.loop-clocked in
    let s = clocking a.session v.monitor v.before in
    midst-last v.invariant (bad_of s _ (a.part.base + v.at)) (as-refused s v.sequence v.bits v.clock (a.part.base + v.at) a.part.input.now v.at c.in-Err.refusal c.in-Err.ensures)
    refl c.bad_line-line.ensures c.put_line-put.ensures
    (omega (arith, c.put_line-put.ensures.past, line-most c.bad_line-line.result (omega (arith, c.bad_line-line.type_inv)) (omega (arith, c.bad_line-line.type_inv)) (omega (arith, c.bad_line-line.type_inv))))

-- the line is no longer than the room that there was for it
short : (c : After-put_quick_line-put) → c.put_quick_line-put.result ≤ c.loop-clocked.put + line_room
short c =
    omega (arith, c.put_quick_line-put.ensures.past, line-most c.clock_line-line.result (omega (arith, c.clock_line-line.type_inv)) (omega (arith, c.clock_line-line.type_inv)) (omega (arith, c.clock_line-line.type_inv)))

pub goes_on-requires : goal.goes_on-requires
goes_on-requires c =
    let k = c.loop-clocked.invariant in
    ((midst-inside k).1, omega arith, omega (arith, short (goal.at.goes_on-requires c).After-put_quick_line-put, k.free, k.same, puts-length c.put_quick_line-put.ensures))

pub loop-clocked-smaller : goal.loop-clocked-smaller
loop-clocked-smaller c = let here = midst-inside c.loop-clocked.invariant in omega (arith, here.0, here.1)

pub loop-clocked-preserved : goal.loop-clocked-preserved
loop-clocked-preserved c =
    let a = c.args in
    let v = c.loop-clocked in
    let w = c.in-Ok.clocked in
    let s = clocking a.session v.monitor v.before in
    let g = sym c.goes_on.ensures ∙ c.if-not-goes_on.false in
    let same = puts-length c.put_quick_line-put.ensures ∙ v.invariant.same in
    record {
      order = clock-order a.part.base a.part.input.now v.next a.part.ended c.put_quick_line-put.result _ (clocking a.session w.monitor v.sequence) v.invariant.order.mode g c.load-sequence.ensures c.byte-bits.ensures c.fields-clock.ensures;
      free = omega (arith, on_room a.part.input.now v.next a.part.ended c.put_quick_line-put.result _ _ 22 v.sequence g, same);
      start = omega (arith, v.invariant.start, c.put_quick_line-put.ensures.past);
      same = same;
      turning = midst-turn v.invariant (clocked_of s v.sequence w.count w.monitor) (as-taken s v.sequence v.bits v.clock (a.part.base + v.at) a.part.input.now v.at c.in-Ok.ensures)
          (ap under_way v.invariant.order.mode) (c.clock_line-line.ensures ∙ ap (clock_line_of v.sequence w.count) c.lowest.ensures) c.put_quick_line-put.ensures (short (goal.at.loop-clocked-preserved c).After-put_quick_line-put);
    }

pub returns : goal.returns
returns c =
    let a = c.args in
    let v = c.loop-clocked in
    let w = c.in-Ok.clocked in
    let s = clocking a.session v.monitor v.before in
    midst-last v.invariant (clocked_of s v.sequence w.count w.monitor) (as-taken s v.sequence v.bits v.clock (a.part.base + v.at) a.part.input.now v.at c.in-Ok.ensures)
    (ap under_way v.invariant.order.mode) (c.clock_line-line.ensures ∙ ap (clock_line_of v.sequence w.count) c.lowest.ensures) c.put_quick_line-put.ensures (short (goal.at.returns c).After-put_quick_line-put)
