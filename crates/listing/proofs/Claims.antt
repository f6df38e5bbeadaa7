-- The claims of specs/Claims.antt hold.
use mathlib.Core.Path.{sym, ◌∙◌}
use Rattle.digits.proofs.Puts.{puts-same}
use Rattle.listing.specs.Claims.{Claims, Unique}
use Rattle.listing.proofs.Lines.{body_of, body-printed, line-ends, line-most}

pub claims : Claims
claims = record {
  one_line = λ l. record { body = body_of l; printed = body-printed l; ends = line-ends l };
  short = line-most;
}

pub unique : Unique
unique = record {
  put_word = λ m at w r r' out out' p q. (p.0 ∙ sym q.0, p.1 ∙ sym q.1);
  put-line = λ m at l r r' out out'. puts-same;
  put-header = λ m at r r' out out'. puts-same;
}
