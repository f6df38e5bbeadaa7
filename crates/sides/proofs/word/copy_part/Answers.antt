use Rattle.memory.proofs.Copies.{copied-part}
use Rattle.sides.proofs.word.copy_part.Goals as goal

-- The copy of a part meets its contract.
pub returns : goal.returns
returns c = copied-part _ _ _ _ _ c.requires.0 c.requires.1 _ c.copy_from_slice.ensures.after
