use mathlib.Core.Path.{sym, ◌∙◌}
use Rattle.places.proofs.Words.{plain-lowest}
use Rattle.places.proofs.fault.lowest_on_side.Goals as goal

-- The lowest byte on a side that increments meets its contract.
pub returns : goal.returns
returns c = rw c.if-side.false (c.lowest.ensures ∙ sym (plain-lowest _ _ _ c.args.width _ _ _))
