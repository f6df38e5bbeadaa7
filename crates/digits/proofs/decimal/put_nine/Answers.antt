use Rattle.digits.proofs.Numbers.{nine-put}
use Rattle.digits.proofs.decimal.put_nine.Goals as goal

pub returns : goal.returns
returns c =
    let a = c.args in nine-put a.value a.closing a.out.now a.at c.put_three.ensures c.put_three-2.ensures c.put_three-3.ensures
