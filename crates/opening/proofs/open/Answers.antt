use mathlib.Core.Path.{refl, sym, ap, subst, ◌∙◌}
use mathlib.Core.List.{[]}
use native.Mathlib.Omega.{arith}
use Rattle.kit.proofs.Choice.{no}
use Rattle.listing.specs.Line.{line_of}
use Rattle.digits.specs.Puts.{Puts}
use Rattle.listing.proofs.Lines.{line-most}
use Rattle.opening.proofs.open.Goals as goal

pub returns : goal.returns
returns c = record {
  passed = refl;
  puts = subst (Puts _ _ _ _) (ap line_of c.settings_line-line.ensures ∙ no [] (sym c.settings_at.ensures ∙ c.if-settings_at.false) refl) c.put_line-put.ensures;
  short = omega (arith, line-most);
}
