use mathlib.Core.Path.{sym, ◌∙◌}
use native.Mathlib.Omega.{arith}
use Rattle.memory.specs.Windows.{windows_of}
use Rattle.steps.proofs.Taken.{taken-fits}
use Rattle.steps.proofs.fetch.fetch.Goals as goal

pub load_descriptor-requires : goal.load_descriptor-requires
load_descriptor-requires c = taken-fits _ (windows_of c.args.windows.now) _ _ (sym c.in_default.is ∙ c.chain_error.ensures) (omega arith)
