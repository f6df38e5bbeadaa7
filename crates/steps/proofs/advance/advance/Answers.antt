use mathlib.Core.Path.{◌≡◌, subst}
use mathlib.Core.Bool.{true}
use Rattle.kit.proofs.Legal.{legal}
use Rattle.state.specs.declared.engine.Phase.{Phase}
use Rattle.state.specs.State.{phase_fits}
use Rattle.state.proofs.WellFormed.{well-formed}
use Rattle.steps.proofs.advance.advance.Goals as goal

pub fetch-requires : goal.fetch-requires
fetch-requires c = let x = c.args.engine.settings in (legal x.width x.beats c.requires.settings_value).width_positive

pub move_burst-requires-clause-transfer_value : goal.move_burst-requires-clause-transfer_value
move_burst-requires-clause-transfer_value c =
    let e = c.args.engine in
    subst (λ (p : Phase). phase_fits p e.control.sgmode ≡ true) c.in-Move.is (well-formed e c.requires.engine_value).phase-fits

pub update-requires : goal.update-requires
update-requires c = (well-formed c.args.engine c.requires.engine_value).current-aligned
