use Rattle.kit.proofs.Legal.{legal}
use Rattle.steps.proofs.move_burst.next_bytes.Goals as goal

pub burst_bytes-requires : goal.burst_bytes-requires
burst_bytes-requires c =
    let v = c.args.moving in
    let g = legal v.settings.width v.settings.beats v.legal in record { width_nonzero = g.width_positive; beats_nonzero = g.beats-positive }
