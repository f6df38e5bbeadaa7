use Rattle.convert.specs.Turn.{handed}
use Rattle.convert.proofs.output.hand_over.Goals as goal

pub returns : goal.returns
returns c = handed _ _
