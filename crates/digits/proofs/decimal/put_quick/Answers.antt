use mathlib.Core.Path.{refl}
use native.Mathlib.Omega.{arith}
use Rattle.digits.proofs.Numbers.{number_put}
use Rattle.digits.proofs.decimal.put_quick.Goals as goal

pub returns-then-value-lt1000000 : goal.returns-then-value-lt1000000
returns-then-value-lt1000000 c =
    number_put 3 c.args.value c.args.closing (omega arith) (omega arith) c.put_leading-next.ensures c.put_three.ensures refl
