use native.Mathlib.Omega.{arith}
use Rattle.digits.proofs.Entries.{leading-one, leading_two, leading-three}
use Rattle.digits.proofs.tables.leading_digits.Goals as goal

pub returns-then-value-lt10 : goal.returns-then-value-lt10
returns-then-value-lt10 c = leading-one c.args.value (omega arith) (omega (arith, c.from_le_bytes.ensures))

pub returns-then-value-lt100 : goal.returns-then-value-lt100
returns-then-value-lt100 c = leading_two c.args.value (omega arith) (omega arith) (omega (arith, c.from_le_bytes-then-value-lt100.ensures))

pub returns : goal.returns
returns c = leading-three c.args.value (omega arith) (omega arith) (omega (arith, c.from_le_bytes-2.ensures))
