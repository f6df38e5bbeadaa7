use mathlib.Core.Path.{sym, ◌∙◌}
use native.Mathlib.Omega.{arith}
use lib.ListN.{length}
use Rattle.session.specs.Effect.{lend}
use Rattle.session.proofs.Passing.{passing-begin, passing-room, passing-full, passing-stops, passing-more, passes-by}
use Rattle.session.proofs.Handing.{takes-over}
use Rattle.session.proofs.RecordTurns.{takes-less}
use Rattle.trace.proofs.pass.pass.Goals as goal

pub returns-then-out-lt-LINE_ROOM : goal.returns-then-out-lt-LINE_ROOM
returns-then-out-lt-LINE_ROOM c =
    let a = c.args in
    let p = passing-begin (length a.out.now) a.part.base a.part.input.now a.part.ended a.session 0 (lend a.memory.now a.windows.now a.other) a.out.now 0 (omega arith) (omega arith) in
    passes-by p (passing-full p (omega (arith, c.if-out-lt-LINE_ROOM.true)))

pub loop-put-init : goal.loop-put-init
loop-put-init c = passing-begin _ _ _ _ _ _ _ _ _ (omega arith) (omega arith)

pub loop-put-smaller : goal.loop-put-smaller
loop-put-smaller c =
    let v = c.loop-put in
    let p = v.invariant in
    let q = takes-over _ _ _ _ c.hand_over-handed.ensures c.calls_other-calls.ensures c.set_aside-other.ensures (c.stretch-passed.ensures c.set_aside-other.result) in
    omega (arith, takes-less q (omega (arith, p.fits, passing-room p)), passing-room p)

pub loop-put-preserved : goal.loop-put-preserved
loop-put-preserved c =
    let v = c.loop-put in
    passing-more v.invariant
    (takes-over _ _ _ _ c.hand_over-handed.ensures c.calls_other-calls.ensures c.set_aside-other.ensures (c.stretch-passed.ensures c.set_aside-other.result))

pub returns-after-loop-put : goal.returns-after-loop-put
returns-after-loop-put c =
    let p = c.loop-put.invariant in
    passes-by p (passing-full p (omega (arith, c.loop-put-test.false, c.if-out-lt-LINE_ROOM.false)))

pub returns-then-not-ready : goal.returns-then-not-ready
returns-then-not-ready c =
    let p = c.loop-put.invariant in
    passes-by p (passing-stops p (sym c.ready.ensures ∙ c.if-not-ready.true))
