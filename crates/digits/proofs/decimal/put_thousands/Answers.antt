use mathlib.Core.Path.{refl}
use native.Mathlib.Omega.{arith}
use Rattle.digits.proofs.Numbers.{number-start}
use Rattle.digits.proofs.decimal.put_thousands.Goals as goal

pub returns : goal.returns
returns c =
    number-start 3 c.args.value 0 (omega arith) (omega arith) c.put_leading-next.ensures c.put_three.ensures refl
