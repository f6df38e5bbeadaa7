use mathlib.Core.Path.{refl}
use native.Mathlib.Omega.{arith}
use Rattle.digits.proofs.Numbers.{number_put}
use Rattle.digits.proofs.decimal.put_number.Goals as goal

pub returns-then-value-lt1000000000 : goal.returns-then-value-lt1000000000
returns-then-value-lt1000000000 c =
    number_put 3 c.args.value c.args.closing (omega arith) (omega arith) c.put_thousands-next.ensures c.put_three.ensures refl

pub returns : goal.returns
returns c =
    let a = c.args in number_put 9 a.value a.closing (omega arith) (omega arith) c.put_billions-next.ensures c.put_nine.ensures refl
