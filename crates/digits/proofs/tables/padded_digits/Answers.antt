use native.Mathlib.Omega.{arith}
use Rattle.digits.proofs.Entries.{padded-three}
use Rattle.digits.proofs.tables.padded_digits.Goals as goal

pub returns : goal.returns
returns c = padded-three c.args.value (omega arith) (omega (arith, c.from_le_bytes.ensures))
