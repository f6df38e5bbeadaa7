use mathlib.Core.Path.{sym}
use Rattle.runs.proofs.Walks.{reaches-one}
use Rattle.runs.proofs.walk.stride.Goals as goal

pub returns-clause-reaches : goal.returns-clause-reaches
returns-clause-reaches c = reaches-one c.requires.phase_value (sym c.in_default.ensures.same) c.advance-advanced.ensures
