-- The stores of src/decimal.rt are those of the digits and of the closing byte.
use mathlib.Core.Path.{◌≡◌, refl, sym, ap, ap₂, subst, ◌∙◌}
use mathlib.Core.List.{List, [], ◌∷◌, ◌++◌, append_assoc}
use Prim.Native.Nat.{ℕ, ◌+◌, ◌/◌, ◌%◌, ◌^◌, ◌≤◌}
use native.Mathlib.Omega.{arith}
use lib.ListN.{length, length-append}
use lib.Seq.{sets}
use Rattle.digits.specs.Decimal.{digits_of, last_digits}
use Rattle.digits.specs.Puts.{Puts, Starts}
use Rattle.digits.proofs.Sets.{sets-cover}
use Rattle.digits.proofs.Split.{last-length, last-split, digits-split}
use Rattle.digits.proofs.Puts.{starts-then, puts-start}

closed-length : (k v e : ℕ) → length (last_digits k v ++ (e ∷ [])) ≡ k + 1
closed-length k v e = length-append (last_digits k v) (e ∷ []) ∙ ap (λ (n : ℕ). n + 1) (last-length k v)

-- the first a digits, and then the k last, which cover the byte that closed those
pub last-put : (k a v d e : ℕ) (m : List ℕ) (at : ℕ) {m₁ m₂ : List ℕ} → m₁ ≡ sets m at (last_digits a (v / 10 ^ k) ++ (d ∷ []))
    → m₂ ≡ sets m₁ (at + a) (last_digits k (v % 10 ^ k) ++ (e ∷ [])) → m₂ ≡ sets m at (last_digits (a + k) v ++ (e ∷ []))
last-put k a v d e m at {m₁} {m₂} p s =
    let high = last_digits a (v / 10 ^ k) in
    let low = last_digits k (v % 10 ^ k) in
    s
    ∙ ap₂ (λ (l : List ℕ) (n : ℕ). sets l (at + n) (low ++ (e ∷ []))) p (sym (last-length a (v / 10 ^ k)))
    ∙ sets-cover m at high (d ∷ []) (low ++ (e ∷ [])) (omega (arith, closed-length k (v % 10 ^ k) e))
    ∙ ap (sets m at) (sym (append_assoc high low (e ∷ [])) ∙ ap (λ (l : List ℕ). l ++ (e ∷ [])) (sym (last-split k v a)))

pub nine-put : (v e : ℕ) (m : List ℕ) (at : ℕ) {m₁ m₂ m₃ : List ℕ} → m₁ ≡ sets m at (last_digits 3 (v / 1000000) ++ (0 ∷ []))
    → m₂ ≡ sets m₁ (at + 3) (last_digits 3 (v / 1000 % 1000) ++ (0 ∷ [])) → m₃ ≡ sets m₂ (at + 6) (last_digits 3 (v % 1000) ++ (e ∷ []))
    → m₃ ≡ sets m at (last_digits 9 v ++ (e ∷ []))
nine-put v e m at p q s =
    last-put 3 6 v 0 e m at
    (last-put 3 3 (v / 1000) 0 0 m at (p ∙ ap (λ (x : ℕ). sets m at (last_digits 3 x ++ (0 ∷ []))) (omega arith)) q)
    s

module _ (k v e : ℕ) {m m₁ m₂ : List ℕ} {at n : ℕ} (many : 3 ≤ k) (some : 1 ≤ v / 10 ^ k) (p : Starts m m₁ at n (digits_of (v / 10 ^ k)))
    (s : m₂ ≡ sets m₁ n (last_digits k (v % 10 ^ k) ++ (e ∷ []))) where
  -- the first digits, and then the k last with the closing byte
  pub number_put : {r : ℕ} → r ≡ n + (k + 1) → Puts m m₂ at r (digits_of v ++ (e ∷ []))
  number_put {r} past =
      let low = last_digits k (v % 10 ^ k) in
      let size = closed-length k (v % 10 ^ k) e in
      subst (Puts m m₂ at r)
      (sym (append_assoc (digits_of (v / 10 ^ k)) low (e ∷ [])) ∙ ap (λ (l : List ℕ). l ++ (e ∷ [])) (sym (digits-split k v some)))
      (starts-then (low ++ (e ∷ [])) (omega (arith, size)) (omega (arith, size)) p s)

  -- the same, with a byte too many
  pub number-start : {r : ℕ} → r ≡ n + k → Starts m m₂ at r (digits_of v)
  number-start {r} past = puts-start (digits_of v) e (omega arith) (number_put refl)
