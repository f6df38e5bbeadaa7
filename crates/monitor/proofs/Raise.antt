-- The table's lines are chosen one by one, from an empty word on, and the word is joined to the flags that stand.
use mathlib.Core.Path.{◌≡◌, refl, sym, ap, ap₂, ◌∙◌}
use mathlib.Core.Bool.{Bool, true, false}
use mathlib.Core.List.{List, [], ◌∷◌}
use Prim.Native.Nat.{ℕ, ◌+◌, ◌*◌, ◌/◌, ◌%◌, ◌^◌, max}
use native.Mathlib.Omega.{arith}
use lib.Arith.{bin_ind, digits_mod}
use lib.Bits.{bit_or, or_step, or_shr, or_zero_r}
use Rattle.kit.specs.Choice.{when}
use Rattle.monitor.specs.Flags.{Line, flag_of, raise}

-- a line: the word with the flag or without is the word joined with the flag's
choice : (n x : ℕ) (t : Bool) → when t (bit_or x (2 ^ n)) x ≡ bit_or x (flag_of n t)
unfolding flag_of
choice n x true = refl
choice n x false = sym (or_zero_r x)

-- one whose test is a comparison, and one whose test is a rule of its own
pub line : (n : ℕ) (t : Bool) {x y r : ℕ} → x ≡ y → r ≡ when t (bit_or x (2 ^ n)) x → r ≡ bit_or y (flag_of n t)
line n t {x = x} e f = f ∙ choice n x t ∙ ap (λ (z : ℕ). bit_or z (flag_of n t)) e

pub rule : (n : ℕ) {x y r : ℕ} {t u : Bool} → x ≡ y → r ≡ when t (bit_or x (2 ^ n)) x → t ≡ u → r ≡ bit_or y (flag_of n u)
rule n {y = y} {t = t} e f g = line n t e f ∙ ap (λ (v : Bool). bit_or y (flag_of n v)) g

odd : (a b : ℕ) → bit_or a b % 2 ≡ max (a % 2) (b % 2)
odd a b = ap (λ (x : ℕ). x % 2) (or_step a b) ∙ digits_mod (bit_or (a / 2) (b / 2)) (omega arith)

or_assoc : (a b c : ℕ) → bit_or (bit_or a b) c ≡ bit_or a (bit_or b c)
or_assoc =
    bin_ind (λ (n : ℕ). (b c : ℕ) → bit_or (bit_or n b) c ≡ bit_or n (bit_or b c)) (λ b c. refl)
    (λ n halves b c.
    or_step (bit_or n b) c
    ∙ ap₂ (λ (x y : ℕ). x * 2 + y)
    (ap (λ (x : ℕ). bit_or x (c / 2)) (or_shr n b 1) ∙ halves (b / 2) (c / 2) ∙ ap (bit_or (n / 2)) (sym (or_shr b c 1)))
    (ap (λ (x : ℕ). max x (c % 2)) (odd n b) ∙ omega arith ∙ ap (max (n % 2)) (sym (odd b c)))
    ∙ sym (or_step n (bit_or b c)))

raise-join : (flags x : ℕ) (lines : List Line) → bit_or flags (raise x lines) ≡ raise (bit_or flags x) lines
unfolding raise
raise-join flags x [] = refl
raise-join flags x (l ∷ lines) =
    raise-join flags (bit_or x (flag_of l.0 l.1)) lines ∙ ap (λ (y : ℕ). raise y lines) (sym (or_assoc flags x (flag_of l.0 l.1)))

-- a table raised in an empty word and joined is the table raised in the flags
pub joined : (flags : ℕ) {r : ℕ} (lines : List Line) → r ≡ raise 0 lines → bit_or flags r ≡ raise flags lines
joined flags lines e =
    ap (bit_or flags) e ∙ raise-join flags 0 lines ∙ ap (λ (y : ℕ). raise y lines) (or_zero_r flags)
