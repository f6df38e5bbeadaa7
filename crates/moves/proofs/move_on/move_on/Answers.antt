use mathlib.Core.Path.{sym, ◌∙◌}
use native.Mathlib.Omega.{arith}
use Rattle.kit.proofs.Legal.{legal}
use Rattle.memory.specs.Windows.{windows_of}
use Rattle.memory.proofs.Groups.{pair-okay-fits}
use mathlib.Core.Bool.{false}
use Rattle.state.proofs.WellFormed.{transfer-fits}
use Rattle.steps.proofs.Bursts.{bytes_fit}
use Rattle.moves.proofs.Moved.{step-moves-on}
use Rattle.moves.proofs.move_on.move_on.Goals as goal

pub burst_bytes-bytes-requires : goal.burst_bytes-bytes-requires
burst_bytes-bytes-requires c =
    let v = c.args.moving in
    let g = legal v.settings.width v.settings.beats v.legal in record { width_nonzero = g.width_positive; beats_nonzero = g.beats-positive }

pub copy-requires : goal.copy-requires
copy-requires c =
    let v = c.args.moving in
    let p = bytes_fit v.settings false v.transfer v.legal v.fits in
    let e = c.burst_bytes-bytes.ensures in
    let f = pair-okay-fits _ _ _ _ _ (sym c.judge_pair.ensures ∙ c.in-Okay.is) (omega (arith, e, p.some)) in
    (f.0, f.1, omega (arith, e, p.page))

pub returns : goal.returns
returns c s p =
    let a = c.args in
    let e = c.burst_bytes-bytes.ensures in
    let v = a.moving in
    let f = transfer-fits v.transfer v.fits in
    let some = (bytes_fit v.settings false v.transfer v.legal v.fits).some in
    step-moves-on p a.memory.now (windows_of a.windows.now) e (omega (arith, e, some)) (sym c.in-Okay.is ∙ c.judge_pair.ensures)
    (λ z. omega (arith, z, f.moved-less)) c.copy.ensures
