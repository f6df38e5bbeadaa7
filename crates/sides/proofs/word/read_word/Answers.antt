use native.Mathlib.Omega.{arith}
use Rattle.sides.proofs.Words.{word_fits, word_held}
use Rattle.sides.proofs.word.read_word.Goals as goal

-- The read of a fixed word meets its contract.
pub copy_part-requires : goal.copy_part-requires
copy_part-requires c =
    let p = c.requires in
    let fits = word_fits _ c.args.start c.args.from _ _ p.width_nonzero.0 p.width_nonzero.3 c.min-first.ensures _ p.width_nonzero.2 p.inside in
    (fits.0, omega arith)

pub copy_part-requires-2 : goal.copy_part-requires-2
copy_part-requires-2 c =
    let p = c.requires in
    let fits = word_fits _ c.args.start c.args.from _ _ p.width_nonzero.0 p.width_nonzero.3 c.min-first.ensures _ p.width_nonzero.2 p.inside in
    (fits.1, omega arith)

pub returns : goal.returns
returns c =
    let p = c.requires in
    let e = c.min-first.ensures in
    let fits = word_fits _ c.args.start c.args.from _ _ p.width_nonzero.0 p.width_nonzero.3 e _ p.width_nonzero.2 p.inside in
    word_held _ c.args.start c.args.from _ _ p.width_nonzero.0 p.width_nonzero.3 e _ fits.0 fits.1 _ _ _
    p.width_nonzero.4 c.copy_part.ensures c.copy_part-2.ensures
