-- The claims of specs/Claims.antt.
use mathlib.Core.Path.{refl}
use Rattle.clocks.specs.Claims.{Words}
use Rattle.clocks.proofs.Monitors.{monitor-back}

pub words : Words
words = record { fresh-monitor = refl; monitor-back = monitor-back }
