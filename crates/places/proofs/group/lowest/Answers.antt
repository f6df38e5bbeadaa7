use mathlib.Core.Path.{sym}
use Rattle.places.proofs.Lows.{okay-nothing}
use Rattle.places.proofs.group.lowest.Goals as goal

-- OKAY has no place.
pub returns-in-Okay : goal.returns-in-Okay
returns-in-Okay c = rw c.in-Okay.is (sym (okay-nothing _ _ (λ x. x) _ _))
