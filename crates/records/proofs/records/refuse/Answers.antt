use mathlib.Core.Path.{refl, subst, ap}
use native.Mathlib.Omega.{arith}
use Rattle.listing.specs.Line.{line_of}
use Rattle.digits.specs.Puts.{Puts}
use Rattle.listing.proofs.Lines.{line-most}
use Rattle.records.proofs.records.refuse.Goals as goal

pub returns : goal.returns
returns c = record {
  passed = refl;
  puts = subst (Puts _ _ _ _) (ap line_of c.bad_line-line.ensures) c.put_line-put.ensures;
  short = omega (arith, line-most);
}
