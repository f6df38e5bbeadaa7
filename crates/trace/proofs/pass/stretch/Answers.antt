use mathlib.Core.Path.{sym, ◌∙◌}
use native.Mathlib.Omega.{arith}
use Rattle.session.proofs.Passing.{passing-begin, passing-room, passing-more}
use Rattle.session.proofs.RecordTurns.{takes-less}
use Rattle.trace.proofs.Stretching.{stretched}
use Rattle.trace.proofs.pass.stretch.Goals as goal

pub loop-put-init : goal.loop-put-init
loop-put-init c =
    let pre = c.requires in
    record {
      passing = λ o. passing-begin _ _ _ _ _ _ _ _ _ (omega (arith, pre.put_in_bounds)) pre.at_in_bounds;
      ready = pre.ended_value.0;
      own = pre.ended_value.1;
      free = pre.put_in_bounds;
    }

pub turns-passed-requires-clause-at_in_bounds : goal.turns-passed-requires-clause-at_in_bounds
turns-passed-requires-clause-at_in_bounds c = (c.loop-put.invariant.passing c.loop-put.session.engine).within

pub overflow_sub-part : goal.overflow_sub-part
overflow_sub-part c =
    let o = c.loop-put.session.engine in (passing-more (c.loop-put.invariant.passing o) (c.turns-passed.ensures o)).within

pub loop-put-smaller : goal.loop-put-smaller
loop-put-smaller c =
    let o = c.loop-put.session.engine in
    let p = c.loop-put.invariant.passing o in
    omega (arith, takes-less (c.turns-passed.ensures o) (omega (arith, p.fits, passing-room p)), passing-room p)

pub loop-put-preserved : goal.loop-put-preserved
loop-put-preserved c =
    let i = c.loop-put.invariant in
    record {
      passing = λ o. passing-more (i.passing o) (c.turns-passed.ensures o);
      ready = sym c.ready.ensures ∙ c.if-not-ready.false;
      own = sym c.calls_other.ensures ∙ c.if-calls_other.false;
      free = omega (arith, c.if-last-put.false, c.requires.put_in_bounds);
    }

pub returns-then-last-put : goal.returns-then-last-put
returns-then-last-put c = stretched c.loop-put.invariant c.turns-passed.ensures

pub returns-then-not-ready : goal.returns-then-not-ready
returns-then-not-ready c = stretched c.loop-put.invariant c.turns-passed.ensures

pub returns-then-calls_other : goal.returns-then-calls_other
returns-then-calls_other c = stretched c.loop-put.invariant c.turns-passed.ensures
