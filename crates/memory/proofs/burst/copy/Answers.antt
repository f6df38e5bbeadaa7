use Rattle.memory.proofs.Copies.{copied-through}
use Rattle.memory.proofs.burst.copy.Goals as goal

-- The copy of a burst meets its contract: the laws are in proofs/Copies.antt.
pub returns : goal.returns
returns c =
    copied-through _ _ _ _ c.requires.0 c.requires.1 _ _ _ c.copy_from_slice.ensures.after c.copy_from_slice-2.ensures.after
