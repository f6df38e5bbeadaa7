use native.Mathlib.Omega.{arith}
use mathlib.Core.Path.{◌∙◌, ap}
use lib.Seq.{sets}
use Rattle.digits.proofs.Entries.{padded-small, padded-bytes}
use Rattle.digits.proofs.decimal.put_three.Goals as goal

pub overflow_add-digits : goal.overflow_add-digits
overflow_add-digits c = omega (arith, padded-small c.args.value (c.args.tables.now.filled.pads c.args.value (omega arith)))

pub returns : goal.returns
returns c =
    let a = c.args in c.store.ensures ∙ ap (sets a.out.now a.at) (padded-bytes a.value (a.tables.now.filled.pads a.value (omega arith)) a.closing (omega arith))
