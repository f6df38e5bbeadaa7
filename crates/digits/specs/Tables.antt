-- RULES.md, "Trace and listing": the two lent tables of the numbers below 1,000. An entry holds letters, the first in its
-- lowest byte.
use Rattle.std.specs.Prelude.{ℕ, ◌<◌, ◌≡◌, List, length, get_or}
use Rattle.kit.specs.Word.{joined}
use Rattle.digits.specs.Decimal.{digits_of, last_digits}

-- three letters, and the number in the top byte
abbrev pub entry_of : List ℕ → ℕ → ℕ
entry_of ds top = joined (get_or ds 0 0) (get_or ds 1 0) (get_or ds 2 0) top

-- n's digits without zeros in front, and how many they are
unfoldable pub leading_of : ℕ → ℕ
leading_of n = entry_of (digits_of n) (length (digits_of n))

-- n's three last digits, zeros in front too
unfoldable pub padded_of : ℕ → ℕ
padded_of n = entry_of (last_digits 3 n) 0

-- what the two tables hold: the entries of the numbers below 1,000
pub record Tables (leading padded : List ℕ) : Type 0 where
  pub leading-size : length leading ≡ 1000
  pub padded-size : length padded ≡ 1000
  pub leads : (n : ℕ) → n < 1000 → get_or leading n 0 ≡ leading_of n
  pub pads : (n : ℕ) → n < 1000 → get_or padded n 0 ≡ padded_of n
