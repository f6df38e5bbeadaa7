use mathlib.Core.Bool.{true}
use Prim.Native.Nat.{◌-◌}
use native.Mathlib.Omega.{arith}
use Rattle.sides.specs.Sides.{place_of}
use Rattle.sides.proofs.Places.{inside-later}
use Rattle.sides.proofs.Moves.{pushed}
use Rattle.sides.proofs.burst.push.Goals as goal

-- The burst to a fixed word meets its contract.
pub write_word-requires-clause-inside : goal.write_word-requires-clause-inside
write_word-requires-clause-inside c =
    let a = c.args in
    inside-later _ (place_of true a.width a.destination) a.from a.count (a.count - c.min-kept.result) _ (omega arith) c.requires.inside_2

pub returns : goal.returns
returns c =
    let a = c.args in
    let p = c.requires in
    pushed _ _ a.source a.destination a.from a.count _ p.width_nonzero.0 c.min-kept.ensures p.width_nonzero.2 p.inside _ _ _
    (omega arith) c.copy_part.ensures c.write_word.ensures
