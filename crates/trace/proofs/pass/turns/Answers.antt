use Rattle.opening.proofs.Taking.{takes-opening}
use Rattle.trace.proofs.pass.turns.Goals as goal

pub returns-in-Start : goal.returns-in-Start
returns-in-Start c =
    let pre = c.requires in
    λ o. takes-opening c.in-Start.is pre.ended_value.0 pre.put_in_bounds c.«open».ensures
