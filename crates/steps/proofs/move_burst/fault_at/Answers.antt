use Rattle.kit.proofs.Legal.{legal}
use Rattle.steps.proofs.move_burst.fault_at.Goals as goal

pub fault_place-requires-clause-width_nonzero : goal.fault_place-requires-clause-width_nonzero
fault_place-requires-clause-width_nonzero c =
    let v = c.args.moving in ((legal v.settings.width v.settings.beats v.legal).width_positive, c.requires)
