use mathlib.Core.Path.{◌∙◌}
use Prim.Native.Nat.{◌*◌}
use native.Mathlib.Omega.{arith}
use Rattle.kit.specs.Limits.{most_bytes}
use Rattle.plan.proofs.Counting.{count-all}
use Rattle.plan.proofs.count.Goals as goal

pub returns : goal.returns
returns c =
    let a = c.args in
    c.measure.ensures ∙ count-all a.width a.beats a.start a.count (2 * most_bytes) (omega arith)
