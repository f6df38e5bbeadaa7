-- The claims of specs/Claims.antt hold.
use mathlib.Core.Path.{◌≡◌, sym, ◌∙◌}
use mathlib.Core.List.{List}
use Prim.Native.Nat.{ℕ, ◌<◌}
use native.Mathlib.Omega.{arith}
use lib.ListN.{length, get_or}
use lib.Seq.{ext_get_or}
use Rattle.digits.specs.Claims.{Claims, Unique}
use Rattle.digits.proofs.Digits.{digits-right, digits-only}
use Rattle.digits.proofs.Puts.{puts-same}

pub claims : Claims
claims = record { decimal = digits-right; decimal-only = λ v us vs t u. digits-only us t ∙ sym (digits-only vs u) }

-- two tables with the same entries
same-table : (f : ℕ → ℕ) (s t : List ℕ) → length s ≡ 1000 → length t ≡ 1000 → ((n : ℕ) → n < 1000 → get_or s n 0 ≡ f n)
    → ((n : ℕ) → n < 1000 → get_or t n 0 ≡ f n) → s ≡ t
same-table f s t e g h k = ext_get_or 0 s t (e ∙ sym g) (λ n i. h n (omega arith) ∙ sym (k n (omega arith)))

pub unique : Unique
unique = record {
  fill = λ l p l' p' t u.
      (same-table _ l l' t.leading-size u.leading-size t.leads u.leads, same-table _ p p' t.padded-size u.padded-size t.pads u.pads);
  put-number = λ m at value closing r r' out out'. puts-same;
}
