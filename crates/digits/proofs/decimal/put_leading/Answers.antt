use native.Mathlib.Omega.{arith}
use Rattle.digits.proofs.Entries.{leading-put}
use Rattle.digits.proofs.decimal.put_leading.Goals as goal

pub returns : goal.returns
returns c =
    let a = c.args in leading-put a.value (omega arith) (a.tables.now.filled.leads a.value (omega arith)) a.out.now a.at c.store.ensures
