use mathlib.Core.Path.{sym, ap, ◌∙◌}
use Prim.Native.Nat.{◌+◌, ◌≤◌}
use native.Mathlib.Omega.{arith}
use Rattle.registers.specs.Write.{left}
use Rattle.session.specs.Pass.{line_room}
use Rattle.listing.proofs.Lines.{line-most}
use Rattle.digits.proofs.Puts.{puts-length}
use Rattle.session.specs.Effect.{under_way, with_engine}
use Rattle.session.proofs.Following.{on_room, writing-on}
use Rattle.session.proofs.Midst.{midst-begin, midst-inside, midst-turn, midst-last}
use Rattle.writes.proofs.Writing.{written_of, as_written, write-order}
use Rattle.writes.proofs.writes.Goals as goal
use Rattle.writes.proofs.writes.Goals.{After-put_quick_line-put}

pub loop-chosen-init : goal.loop-chosen-init
loop-chosen-init c =
    let a = c.args in
    (a.session.sequence, a.at, midst-begin c.requires.in_order c.requires.put_in_bounds)

-- the line is no longer than the room that there was for it
short : (c : After-put_quick_line-put) → c.put_quick_line-put.result ≤ c.loop-chosen.put + line_room
short c =
    omega (arith, c.put_quick_line-put.ensures.past, line-most c.write_line-line.result (omega (arith, c.write_line-line.type_inv)) (omega (arith, c.write_line-line.type_inv)) (omega (arith, c.write_line-line.type_inv)))

pub goes_on_writing-requires : goal.goes_on_writing-requires
goes_on_writing-requires c =
    let k = c.loop-chosen.invariant.2 in
    ((midst-inside k).1, omega (arith, short (goal.at.goes_on_writing-requires c).After-put_quick_line-put, k.free, k.same, puts-length c.put_quick_line-put.ensures))

pub loop-chosen-preserved : goal.loop-chosen-preserved
loop-chosen-preserved c =
    let a = c.args in
    let v = c.loop-chosen in
    let k = v.invariant.2 in
    let s = with_engine a.session v.invariant.0 v.engine in
    let g = sym c.goes_on_writing.ensures ∙ c.if-not-goes_on_writing.false in
    let after = with_engine a.session v.sequence c.write_to-answer.new.engine in
    let same = puts-length c.put_quick_line-put.ensures ∙ k.same in (
      v.sequence,
      v.next,
      record {
        order = write-order a.part.base a.part.input.now v.next a.part.ended c.put_quick_line-put.result _ after k.order.mode g c.load-sequence.ensures c.load_half-offset.ensures c.load-value.ensures;
        free = omega (arith, on_room a.part.input.now v.next a.part.ended c.put_quick_line-put.result _ _ 12 v.sequence (writing-on a.session.chosen a.part.input.now v.next a.part.ended c.put_quick_line-put.result _ v.sequence g), same);
        start = omega (arith, k.start, c.put_quick_line-put.ensures.past);
        same = same;
        turning = midst-turn k (written_of s v.sequence v.offset (left c.write_to-answer.result c.write_to-answer.new.engine))
            (as_written s v.sequence v.offset v.value (a.part.base + v.invariant.1) a.part.input.now v.invariant.1 c.write_to-answer.ensures)
            (ap under_way k.order.mode) c.write_line-line.ensures c.put_quick_line-put.ensures (short (goal.at.loop-chosen-preserved c).After-put_quick_line-put);
      },
    )

pub returns : goal.returns
returns c =
    let a = c.args in
    let v = c.loop-chosen in
    let k = v.invariant.2 in
    let s = with_engine a.session v.invariant.0 v.engine in
    midst-last k (written_of s v.sequence v.offset (left c.write_to-answer.result c.write_to-answer.new.engine))
    (as_written s v.sequence v.offset v.value (a.part.base + v.invariant.1) a.part.input.now v.invariant.1 c.write_to-answer.ensures)
    (ap under_way k.order.mode) c.write_line-line.ensures c.put_quick_line-put.ensures (short (goal.at.returns c).After-put_quick_line-put)
