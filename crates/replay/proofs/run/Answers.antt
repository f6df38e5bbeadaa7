use mathlib.Core.Path.{◌≡◌, subst}
use Prim.Native.Nat.{◌+◌, ◌-◌}
use native.Mathlib.Omega.{arith}
use Rattle.replay.proofs.Whole.{Runs, runs-begin, runs-turn}
use Rattle.replay.proofs.run.Goals as goal

pub loop-init : goal.loop-init
loop-init c =
    let pre = c.requires in
    runs-begin pre.0 pre.1 (omega arith) c.begin-flow.ensures 140737488355328 (omega arith)

pub loop-preserved : goal.loop-preserved
loop-preserved c =
    let t = c.flow_on-flow in
    let less : (140737488355328 - c.loop.counter) - 1 ≡ 140737488355328 - (c.loop.counter + 1) = omega arith in
    subst (Runs t.new.memory t.new.windows t.new.buffer t.result) less
    (runs-turn c.loop.invariant t.ensures (omega (arith, c.loop-test)))
