-- RULES.md, "Trace and listing": what a reader of a number relies on. Proved in proofs/Claims.antt.
use Rattle.std.specs.Prelude.{ℕ, ◌≡◌, List, [], ◌∷◌, ◌++◌}
use Rattle.digits.specs.Decimal.{digits_of, InDecimal}
use Rattle.digits.specs.Puts.{Puts}
use Rattle.digits.specs.Tables.{Tables}

-- the digits of a number are its text in decimal, and there is no other
pub record Claims : Type 0 where
  pub decimal : (v : ℕ) → InDecimal v (digits_of v)
  pub decimal-only : (v : ℕ) (us vs : List ℕ) → InDecimal v us → InDecimal v vs → us ≡ vs

-- two results that one contract allows are equal
pub record Unique : Type 0 where
  pub fill : (leading padded leading' padded' : List ℕ) → Tables leading padded → Tables leading' padded'
      → (leading ≡ leading') × (padded ≡ padded')
  pub put-number : (m : List ℕ) (at value closing : ℕ) (r r' : ℕ) (out out' : List ℕ) → Puts m out at r (digits_of value ++ (closing ∷ []))
      → Puts m out' at r' (digits_of value ++ (closing ∷ [])) → (r ≡ r') × (out ≡ out')
