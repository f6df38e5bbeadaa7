-- RULES.md, "Trace and listing": a number in decimal, without padding, in ASCII: the character of the digit d is 48 + d.
use Rattle.std.specs.Prelude.{ℕ, zero, suc, ◌+◌, ◌-◌, ◌*◌, ◌/◌, ◌%◌, ◌≤◌, ◌≡◌, List, [], ◌∷◌, ◌++◌, ltb, length, get_or}
use Rattle.kit.specs.Choice.{when}

-- v's digits, the highest first, where `fuel` is above v
unfoldable pub digits_by : ℕ → ℕ → List ℕ
digits_by zero v = []
digits_by (suc fuel) v = when (ltb v 10) ((48 + v) ∷ []) (digits_by fuel (v / 10) ++ ((48 + v % 10) ∷ []))

-- v's digits, the highest first; 0 has the digit 0
unfoldable pub digits_of : ℕ → List ℕ
digits_of v = digits_by (suc v) v

-- v's n last digits, zeros in front too
unfoldable pub last_digits : ℕ → ℕ → List ℕ
last_digits zero v = []
last_digits (suc n) v = last_digits n (v / 10) ++ ((48 + v % 10) ∷ [])

-- the number that digits read as, after those that read as n
abbrev pub read_on : ℕ → List ℕ → ℕ
read_on n [] = n
read_on n (d ∷ ds) = read_on (10 * n + (d - 48)) ds

abbrev pub number_read : List ℕ → ℕ
number_read ds = read_on 0 ds

-- P holds of each number of the list
abbrev pub Every : (ℕ → Type 0) → List ℕ → Type 0
Every P [] = Unit {0}
Every P (x ∷ xs) = P x × Every P xs

-- a text in decimal of v, in plain terms: it has a digit, each of its letters is one, it reads as v, and a zero in front
-- is its only digit
pub record InDecimal (v : ℕ) (ds : List ℕ) : Type 0 where
  pub some : 1 ≤ length ds
  pub digits : Every (λ (d : ℕ). (48 ≤ d) × (d ≤ 57)) ds
  pub reads : number_read ds ≡ v
  pub front : get_or ds 0 0 ≡ 48 → length ds ≡ 1
