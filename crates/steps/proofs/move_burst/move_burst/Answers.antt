use mathlib.Core.Path.{sym, subst}
use native.Mathlib.Omega.{arith}
use Rattle.kit.proofs.Legal.{legal}
use Rattle.state.proofs.WellFormed.{transfer-fits}
use Rattle.steps.proofs.Bursts.{BurstFits, burst-fits}
use Rattle.steps.proofs.move_burst.move_burst.Goals as goal
use Rattle.steps.proofs.move_burst.move_burst.Goals.{After-told_at-told}

-- the burst fits
fits : (c : After-told_at-told) → BurstFits c.args.transfer c.next_bytes-bytes.result
fits c =
    let a = c.args in
    subst (BurstFits a.transfer) (sym c.next_bytes-bytes.ensures) (burst-fits a.engine a.transfer c.requires.settings_value c.requires.transfer_value)

pub carry-verdict-requires-clause-width_nonzero : goal.carry-verdict-requires-clause-width_nonzero
carry-verdict-requires-clause-width_nonzero c =
    let x = c.args.engine.settings in
    let g = legal x.width x.beats c.requires.settings_value in
    let b = fits (goal.at.carry-verdict-requires-clause-width_nonzero c).After-told_at-told in (g.width_positive, g.width_small, b.some, b.page, c.requires.memory_len_bound)

pub after_burst-requires : goal.after_burst-requires
after_burst-requires c =
    omega (arith, (fits (goal.at.after_burst-requires c).After-told_at-told).within, (transfer-fits c.args.transfer c.requires.transfer_value).total-small)
