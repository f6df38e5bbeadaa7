use mathlib.Core.Path.{sym, ◌∙◌}
use native.Mathlib.Omega.{arith}
use Rattle.memory.specs.Windows.{windows_of}
use Rattle.steps.proofs.Taken.{taken-fits}
use Rattle.steps.proofs.update.update.Goals as goal

pub store-requires : goal.store-requires
store-requires c = taken-fits _ (windows_of c.args.windows.now) _ _ (sym c.in_default.is ∙ c.chain_error.ensures) (omega arith)
