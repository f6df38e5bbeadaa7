use mathlib.Core.Path.{sym, ap, ◌∙◌}
use native.Mathlib.Omega.{arith}
use native.Mathlib.Numerals.{add-one}
use lib.ListN.{length, length-append}
use Rattle.memory.specs.Windows.{window_in}
use Rattle.memory.specs.Interval.{touches_of}
use Rattle.memory.proofs.Touch.{touches-one}
use Rattle.places.proofs.Holders.{holder-end, holder-here, holder-on}
use Rattle.places.proofs.locate.holder.Goals as goal

pub returns-then-touches : goal.returns-then-touches
returns-then-touches c =
    let v = c.loop-number.invariant in
    let s = c.in-Some.ensures.steps in
    let a = c.args.address in
    let w = window_in c.in-Some.pair.now in
    let holds = touches-one w a ∙ ap (touches_of w a) (sym (add-one a)) ∙ sym (rw c.window_in-window.ensures at c.touches.ensures) ∙ c.if-touches.true in
    omega (arith, s.1, v.2, holder-here _ _ _ s.0.1.0 (s.0.1.1 ∙ v.0) a holds)

pub loop-number-preserved : goal.loop-number-preserved
loop-number-preserved c =
    let v = c.loop-number.invariant in
    let s = c.in-Some.ensures.steps in
    let a = c.args.address in
    let w = window_in c.in-Some.pair.now in
    let misses = touches-one w a ∙ ap (touches_of w a) (sym (add-one a)) ∙ sym (rw c.window_in-window.ensures at c.touches.ensures) ∙ c.if-touches.false in (
      s.0.0 ∙ v.0,
      omega (arith, s.2, s.0.1.1, v.0, v.1, ap length s.0.1.0, length-append c.in-Some.pair.now c.next.new.self.iter.rest.now),
      omega (arith, s.2, v.2, holder-on _ _ _ s.0.1.0 (s.0.1.1 ∙ v.0) a misses),
    )

pub returns : goal.returns
returns c =
    let v = c.loop-number.invariant in
    let s = c.in-None.ensures.steps in
    omega (arith, s.0.1, v.0, v.1, v.2, holder-end c.loop-number.number-iterator.iter.rest.now c.args.address (omega (arith, s.0.1.0, v.0)))
