use native.Mathlib.Omega.{arith}
use Rattle.steps.proofs.Bursts.{bytes_fit}
use Rattle.fixed.proofs.pieces.pieces_ahead.Goals as goal

pub nonzero_div-left : goal.nonzero_div-left
nonzero_div-left c =
    let v = c.args.moving in let b = bytes_fit v.settings c.args.control.keyholewrite v.transfer v.legal v.fits in omega (arith, b.some)
