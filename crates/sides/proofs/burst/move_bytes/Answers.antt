use mathlib.Core.Path.{sym, ◌∙◌}
use Rattle.sides.proofs.Places.{plain_fits}
use Rattle.sides.proofs.Moves.{plain_moved}
use Rattle.sides.proofs.burst.move_bytes.Goals as goal

pub returns-else-destination-2 : goal.returns-else-destination-2
returns-else-destination-2 c =
    let a = c.args in
    let p = c.requires in
    let fits = plain_fits _ a.width a.source.start a.from a.count _ c.if-source.false p.width_nonzero.2 p.inside in
    rw (c.if-source.false, c.if-destination-2.false) (c.copy.ensures ∙ sym (plain_moved _ a.width _ _ _ _ fits))
