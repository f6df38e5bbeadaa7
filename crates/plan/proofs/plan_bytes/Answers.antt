use native.Mathlib.Omega.{arith}
use Rattle.plan.proofs.Planning.{fillable}
use Rattle.plan.proofs.plan_bytes.Goals as goal

pub fill-requires : goal.fill-requires
fill-requires c =
    let p = fillable c.in_ok-bursts.ensures in
    record { beats_value = p.legal; count_nonzero = p.range.some; count_bound = p.range.inside; count_in_bounds = omega arith }
