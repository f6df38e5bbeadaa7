-- Bits of a word: of two words joined, of a power of two, of a half; and what the counts of bits say of them.
use mathlib.Core.Path.{◌≡◌, refl, sym, ap, ◌∙◌}
use Prim.Native.Nat.{ℕ, zero, suc, ◌+◌, ◌/◌, ◌%◌, ◌^◌, ◌<◌, max}
use native.Mathlib.Nat.{zero-div, div-one, zero-lt-suc, pow-suc, mul-div_cancel, mul-mod_left}
use native.Mathlib.Numerals.{one-add}
use native.Mathlib.Omega.{arith}
use lib.Dec.{eqb, eqb-zero-suc, eqb-suc-zero, eqb-suc-suc}
use lib.Arith.{digits_mod, lt-one}
use lib.Pow.{shr-shr}
use lib.Bits.{bit_or, or_shr, or_step}
use lib.Count.{ones, ones_in, count_trailing_zeros, under, ones_step}
use Rattle.kit.specs.Choice.{when}
use Rattle.monitor.specs.Rules.{bit}
use Rattle.monitor.specs.Claims.{standing}

-- ---- a bit of a word

pub bit-or : (n a b : ℕ) → bit n (bit_or a b) ≡ max (bit n a) (bit n b)
bit-or n a b =
    ap (λ (x : ℕ). x % 2) (or_shr a b n ∙ or_step (a / 2 ^ n) (b / 2 ^ n)) ∙ digits_mod (bit_or (a / 2 ^ n / 2) (b / 2 ^ n / 2)) (omega arith)

pub bit-none : (n : ℕ) → bit n 0 ≡ 0
bit-none n = ap (λ (x : ℕ). x % 2) (zero-div (2 ^ n))

bit-first : (w : ℕ) → bit 0 w ≡ w % 2
bit-first w = ap (λ (x : ℕ). x % 2) (div-one w)

bit-next : (n w : ℕ) → bit (suc n) w ≡ bit n (w / 2)
bit-next n w = ap (λ (x : ℕ). x % 2) (ap (λ (x : ℕ). w / 2 ^ x) (sym (one-add n)) ∙ sym (shr-shr w 1 n))

pub bit-power : (n k : ℕ) → bit n (2 ^ k) ≡ when (eqb n k) 1 0
bit-power zero zero = refl
bit-power zero (suc k) = bit-first (2 ^ suc k) ∙ ap (λ (x : ℕ). x % 2) (pow-suc 2 k) ∙ mul-mod_left (2 ^ k) 2 ∙ ap (λ t. when t 1 0) (sym (eqb-zero-suc k))
bit-power (suc n) zero = bit-next n 1 ∙ bit-none n ∙ ap (λ t. when t 1 0) (sym (eqb-suc-zero n))
bit-power (suc n) (suc k) =
    bit-next n (2 ^ suc k) ∙ ap (λ (x : ℕ). bit n (x / 2)) (pow-suc 2 k) ∙ ap (bit n) (mul-div_cancel (2 ^ k) (zero-lt-suc 1)) ∙ bit-power n k
    ∙ ap (λ t. when t 1 0) (sym (eqb-suc-suc n k))

-- ---- the counts of bits

half_lt : (k w : ℕ) → w < 2 ^ suc k → w / 2 < 2 ^ k
half_lt k w h = omega (arith, pow-suc 2 k)

standing-low : (k w : ℕ) → standing (suc k) w ≡ w % 2 + standing k (w / 2)
standing-low zero w = ap (λ (x : ℕ). x + 0) (bit-first w)
standing-low (suc k) w = omega (arith, bit-next k w, standing-low k w)

pub ones-standing : (k w : ℕ) → w < 2 ^ k → ones w ≡ standing k w
unfolding ones ones_in
ones-standing zero w h = ap ones (lt-one h)
ones-standing (suc k) w h = ones_step w ∙ ap (λ (x : ℕ). w % 2 + x) (ones-standing k (w / 2) (half_lt k w h)) ∙ sym (standing-low k w)

pub trailing-up : (k w : ℕ) → w < 2 ^ k → (w ≡ 0 → ⊥) → bit (count_trailing_zeros k w) w ≡ 1
unfolding count_trailing_zeros
trailing-up zero w h n = absurd (n (lt-one h))
trailing-up (suc k) w h n = go (w % 2) refl (λ z. trailing-up k (w / 2) (half_lt k w h) z)
  where
    go : (d : ℕ) → w % 2 ≡ d → ((w / 2 ≡ 0 → ⊥) → bit (count_trailing_zeros k (w / 2)) (w / 2) ≡ 1) → bit (under d (count_trailing_zeros k (w / 2))) w ≡ 1
    go zero e up = bit-next (count_trailing_zeros k (w / 2)) w ∙ up (λ z. n (omega arith))
    go (suc d) e up = bit-first w ∙ omega arith

pub trailing-first : (k w n : ℕ) → n < count_trailing_zeros k w → bit n w ≡ 0
unfolding count_trailing_zeros
trailing-first zero w n h = omega arith
trailing-first (suc k) w n h = go n (w % 2) refl h (trailing-first k (w / 2))
  where
    go : (n d : ℕ) → w % 2 ≡ d → n < under d (count_trailing_zeros k (w / 2)) → ((i : ℕ) → i < count_trailing_zeros k (w / 2) → bit i (w / 2) ≡ 0) → bit n w ≡ 0
    go zero zero e l rest = bit-first w ∙ e
    go (suc n) zero e l rest = bit-next n w ∙ rest n (omega arith)
    go n (suc d) e l rest = omega arith
