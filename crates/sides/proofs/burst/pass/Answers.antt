use native.Mathlib.Omega.{arith}
use Rattle.sides.proofs.Words.{phase-inside}
use Rattle.sides.proofs.Moves.{passed}
use Rattle.sides.proofs.burst.pass.Goals as goal

-- The burst between two fixed words meets its contract.
pub read_word-requires-clause-inside : goal.read_word-requires-clause-inside
read_word-requires-clause-inside c = phase-inside _ _ _ _ c.args.count _ _ (omega arith) c.requires.inside

pub write_word-requires-clause-inside : goal.write_word-requires-clause-inside
write_word-requires-clause-inside c = phase-inside _ _ _ _ c.args.count _ _ (omega arith) c.requires.inside_2

pub returns : goal.returns
returns c =
    let a = c.args in
    passed _ _ a.source a.destination a.from a.count _ c.requires.width_nonzero.0 c.min-kept.ensures _ _
    c.read_word.ensures c.write_word.ensures
