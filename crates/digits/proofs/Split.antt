-- The digits of a number, cut in two: those of its quotient by a power of ten, and as many last ones as the power has zeros.
use mathlib.Core.Path.{◌≡◌, refl, sym, ap, ap₂, ◌∙◌}
use mathlib.Core.List.{List, [], ◌∷◌, ◌++◌, append_assoc, append-nil}
use Prim.Native.Nat.{ℕ, zero, suc, ◌+◌, ◌*◌, ◌/◌, ◌%◌, ◌^◌, ◌≤◌, ◌<◌}
use native.Mathlib.Omega.{arith}
use native.Mathlib.Nat.{add-zero, add-suc, mul-pos, mul_assoc, pow-suc, div-add-mod', mod-lt, one-le-pow}
use lib.ListN.{length, length-append}
use Rattle.digits.specs.Decimal.{digits_of, last_digits}
use Rattle.digits.proofs.Digits.{digits-small, digits_step}

pub last-length : (n v : ℕ) → length (last_digits n v) ≡ n
unfolding last_digits
last-length zero v = refl
last-length (suc n) v =
    length-append (last_digits n (v / 10)) ((48 + v % 10) ∷ []) ∙ ap (λ (k : ℕ). k + 1) (last-length n (v / 10)) ∙ omega arith

-- ten times as much and a digit
tens : (q k r : ℕ) → q * 10 ^ suc k + r ≡ 10 * (q * 10 ^ k) + r
tens q k r = ap (λ (x : ℕ). x + r) (ap (λ (x : ℕ). q * x) (pow-suc 10 k) ∙ sym (mul_assoc q (10 ^ k) 10) ∙ omega arith)

tens-rest : (q k r : ℕ) → (q * 10 ^ suc k + r) / 10 ≡ q * 10 ^ k + r / 10
tens-rest q k r = ap (λ (x : ℕ). x / 10) (tens q k r) ∙ omega arith

tens-digit : (q k r : ℕ) → (q * 10 ^ suc k + r) % 10 ≡ r % 10
tens-digit q k r = ap (λ (x : ℕ). x % 10) (tens q k r) ∙ omega arith

ones : (q r : ℕ) → r < 10 ^ 0 → q * 10 ^ 0 + r ≡ q
ones q r h = omega arith

last-join : (a b q r : ℕ) → r < 10 ^ b → last_digits (a + b) (q * 10 ^ b + r) ≡ last_digits a q ++ last_digits b r
unfolding last_digits
last-join a zero q r h = ap₂ last_digits (add-zero a) (ones q r h) ∙ sym (append-nil (last_digits a q))
last-join a (suc b) q r h =
    ap (λ (n : ℕ). last_digits n (q * 10 ^ suc b + r)) (add-suc a b)
    ∙ ap₂ (λ (x y : ℕ). last_digits (a + b) x ++ ((48 + y) ∷ [])) (tens-rest q b r) (tens-digit q b r)
    ∙ ap (λ (l : List ℕ). l ++ ((48 + r % 10) ∷ [])) (last-join a b q (r / 10) (omega arith))
    ∙ append_assoc (last_digits a q) (last_digits b (r / 10)) ((48 + r % 10) ∷ [])

digits-join : (k q r : ℕ) → 1 ≤ q → r < 10 ^ k → digits_of (q * 10 ^ k + r) ≡ digits_of q ++ last_digits k r
unfolding last_digits
digits-join zero q r some h = ap digits_of (ones q r h) ∙ sym (append-nil (digits_of q))
digits-join (suc k) q r some h =
    digits_step (q * 10 ^ suc k + r) (rw (tens q k r) (omega (arith, at_least q k some)))
    ∙ ap₂ (λ (x y : ℕ). digits_of x ++ ((48 + y) ∷ [])) (tens-rest q k r) (tens-digit q k r)
    ∙ ap (λ (l : List ℕ). l ++ ((48 + r % 10) ∷ [])) (digits-join k q (r / 10) some (omega arith))
    ∙ append_assoc (digits_of q) (last_digits k (r / 10)) ((48 + r % 10) ∷ [])
  where
    at_least : (q k : ℕ) → 1 ≤ q → 1 ≤ q * 10 ^ k
    at_least q k h = mul-pos h (one-le-pow k 10 (omega arith))

module _ (k v : ℕ) where
  pub cut : v / 10 ^ k * 10 ^ k + v % 10 ^ k ≡ v
  cut = div-add-mod' v (10 ^ k)

  rest-fits : v % 10 ^ k < 10 ^ k
  rest-fits = mod-lt v (one-le-pow k 10 (omega arith))

  pub last-split : (a : ℕ) → last_digits (a + k) v ≡ last_digits a (v / 10 ^ k) ++ last_digits k (v % 10 ^ k)
  last-split a = ap (last_digits (a + k)) (sym cut) ∙ last-join a k (v / 10 ^ k) (v % 10 ^ k) rest-fits

  pub digits-split : 1 ≤ v / 10 ^ k → digits_of v ≡ digits_of (v / 10 ^ k) ++ last_digits k (v % 10 ^ k)
  digits-split some = ap digits_of (sym cut) ∙ digits-join k (v / 10 ^ k) (v % 10 ^ k) some rest-fits

-- a number of just one more digit than k
pub digits-whole : (k v : ℕ) → 1 ≤ v / 10 ^ k → v / 10 ^ k < 10 → digits_of v ≡ last_digits (1 + k) v
unfolding last_digits
digits-whole k v some h =
    digits-split k v some
    ∙ ap (λ (l : List ℕ). l ++ last_digits k (v % 10 ^ k)) (digits-small (v / 10 ^ k) h ∙ ap (λ (d : ℕ). (48 + d) ∷ []) (omega arith))
    ∙ sym (last-split k v 1)
