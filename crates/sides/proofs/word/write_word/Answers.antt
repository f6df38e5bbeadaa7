use native.Mathlib.Omega.{arith}
use Rattle.sides.proofs.Words.{word_fits, word-put}
use Rattle.sides.proofs.word.write_word.Goals as goal

-- The write of a fixed word meets its contract.
pub copy_part-requires : goal.copy_part-requires
copy_part-requires c =
    let p = c.requires in
    let fits = word_fits _ c.args.start c.args.from _ _ p.width_nonzero.0 p.width_nonzero.3 c.min-first.ensures _ p.width_nonzero.2 p.inside in
    (omega arith, fits.0)

pub returns : goal.returns
returns c =
    let p = c.requires in
    word-put _ c.args.start c.args.from _ _ p.width_nonzero.0 p.width_nonzero.3 c.min-first.ensures _ _ _ _ p.width_nonzero.4
    c.copy_part.ensures c.copy_part-2.ensures
