use mathlib.Core.Path.{◌≡◌}
use mathlib.Core.List.{List}
use Prim.Native.Nat.{ℕ, ◌<◌}
use lib.ListN.{length, get_or}
use Rattle.digits.specs.Tables.{leading_of, padded_of}
use Rattle.digits.proofs.tables.DigitTables.new.Given as goal

-- both tables keep their length, and their entries of the numbers passed are right
pub record Filled (leading padded : List ℕ) (n : ℕ) : Type 0 where
  pub leading-size : length leading ≡ 1000
  pub padded-size : length padded ≡ 1000
  pub leads : (k : ℕ) → k < n → get_or leading k 0 ≡ leading_of k
  pub pads : (k : ℕ) → k < n → get_or padded k 0 ≡ padded_of k

abbrev pub invariant-loop-value : goal.invariant-loop-value
invariant-loop-value l = Filled l.leading l.padded l.value
