use Rattle.convert.proofs.Buffer.{refill-fits}
use Rattle.convert.proofs.turn.Goals as goal

pub forward-requires : goal.forward-requires
forward-requires c = refill-fits c.requires.0 c.refill-state.ensures
