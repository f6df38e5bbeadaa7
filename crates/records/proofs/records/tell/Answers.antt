use mathlib.Core.Path.{refl, sym, subst, ◌∙◌}
use mathlib.Core.List.{[]}
use native.Mathlib.Omega.{arith}
use Rattle.kit.proofs.Choice.{no}
use Rattle.digits.specs.Puts.{Puts}
use Rattle.listing.proofs.Lines.{line-most}
use Rattle.records.proofs.records.tell.Goals as goal

pub returns : goal.returns
returns c = record {
  passed = refl;
  puts = subst (Puts _ _ _ _) (no [] (sym c.under_way.ensures ∙ c.if-under_way.false) refl) c.put_line-put.ensures;
  short = omega (arith, line-most);
}
