use native.Mathlib.Omega.{arith}
use Rattle.digits.proofs.Entries.{short-put, leading-few}
use Rattle.digits.proofs.decimal.put_short.Goals as goal

pub overflow_sub-end : goal.overflow_sub-end
overflow_sub-end c =
    let a = c.args in let f = leading-few a.value (omega arith) (a.tables.now.filled.leads a.value (omega arith)) in omega arith

pub put_pair-requires-2 : goal.put_pair-requires-2
put_pair-requires-2 c =
    let a = c.args in let f = leading-few a.value (omega arith) (a.tables.now.filled.leads a.value (omega arith)) in omega arith

pub returns : goal.returns
returns c =
    let a = c.args in short-put a.value a.closing (omega arith) (omega arith) (a.tables.now.filled.leads a.value (omega arith)) (a.tables.now.filled.pads a.value (omega arith)) a.out.now a.at c.put_pair.ensures c.put_pair-2.ensures
