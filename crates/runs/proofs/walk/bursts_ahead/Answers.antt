use mathlib.Core.Path.{◌≡◌, sym, ap, subst}
use mathlib.Core.Bool.{true}
use native.Mathlib.Omega.{arith}
use Rattle.state.specs.declared.engine.Phase.{Phase}
use Rattle.state.specs.State.{phase_fits}
use Rattle.state.proofs.WellFormed.{parts}
use Rattle.steps.specs.Step.{AfterAdvance}
use Rattle.runs.proofs.Walks.{reaches-none}
use Rattle.runs.proofs.walk.bursts_ahead.Goals as goal

pub invariant_of-moving-clause-fits : goal.invariant_of-moving-clause-fits
invariant_of-moving-clause-fits c =
    subst (λ (p : Phase). phase_fits p c.args.engine.control.sgmode ≡ true) c.in-Move.is (parts c.args.engine c.requires.engine_value).phase

pub returns-else-walked-gt0-clause-same : goal.returns-else-walked-gt0-clause-same
returns-else-walked-gt0-clause-same c =
    let here = reaches-none (omega (arith, c.if-walked-gt0.false)) c.glide_on-walked.ensures.reaches in
    sym (ap (λ (x : AfterAdvance). x.memory) here)
