use native.Mathlib.Numerals.{add-one}
use Rattle.digits.proofs.decimal.put_pair.Goals as goal

pub returns : goal.returns
returns c = rw (add-one, c.to_le_bytes-bytes.ensures)
