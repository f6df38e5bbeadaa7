-- The pieces of a fixed destination: one after the other, how many, and that they add up.
use mathlib.Core.Path.{◌≡◌, refl, sym, ap, subst, ◌∙◌}
use mathlib.Core.Logic.{◌⊎◌, inl, inr, ⊎_elim}
use mathlib.Core.Bool.{true, false}
use mathlib.Core.List.{List, [], ◌∷◌}
use Prim.Native.Nat.{ℕ, zero, suc, ◌+◌, ◌-◌, ◌/◌, ◌≤◌, ◌<◌, min}
use native.Mathlib.Nat.{div-eq_of_lt, add-div_right}
use native.Mathlib.Omega.{arith}
use lib.ListN.{length}
use lib.Dec.{eqb, ltb}
use borrow.Author.Tests.{ne_eqb, eqb-true, eqb-false, ltb-true, ltb-false}
use Rattle.kit.proofs.Choice.{decide}
use Rattle.cut.specs.declared.Burst.{Burst}
use Rattle.claims.specs.KeyHole.{pieces_within, pieces, sum_of}

module _ (p a : ℕ) (some : 0 < p) where
  -- how many there may be does not matter, once they are enough
  enough : (k j n : ℕ) → n ≤ k → n ≤ j → pieces_within k p a n ≡ pieces_within j p a n
  unfolding pieces_within
  enough zero zero n f g = refl
  enough zero (suc j) n f g = let e : n ≡ 0 = omega (arith, f) in ap (pieces_within zero p a) e ∙ sym (ap (pieces_within (suc j) p a) e)
  enough (suc k) zero n f g = let e : n ≡ 0 = omega (arith, g) in ap (pieces_within (suc k) p a) e ∙ sym (ap (pieces_within zero p a) e)
  enough (suc k) (suc j) zero f g = refl
  enough (suc k) (suc j) (suc n) f g =
      ap (λ (l : List Burst). elim (eqb (suc n) 0) [ true ↦ [] | false ↦ record { start = a; bytes = min p (suc n) } ∷ l ])
      (enough k j (suc n - p) (omega (arith, f, some)) (omega (arith, g, some)))

  pub pieces_none : pieces p a 0 ≡ []
  unfolding pieces pieces_within
  pieces_none = refl

  pub pieces_step : (n : ℕ) → 0 < n → pieces p a n ≡ record { start = a; bytes = min p n } ∷ pieces p a (n - p)
  unfolding pieces pieces_within
  pieces_step zero h = absurd (omega (arith, h))
  pieces_step (suc n) h =
      rw (ne_eqb (suc n) 0 (λ e. omega (arith, e)), pieces_within)
      (ap (λ (l : List Burst). record { start = a; bytes = min p (suc n) } ∷ l) (enough n (suc n - p) (suc n - p) (omega (arith, some)) (omega arith)))

  -- what holds of none, and of a piece and those after it, holds of all
  pieces-induct : (P : ℕ → Type 0) → P 0 → ((n : ℕ) → 0 < n → P (n - p) → P n) → (n : ℕ) → P n
  pieces-induct P none step n = go n n (omega arith)
    where
      go : (k n : ℕ) → n ≤ k → P n
      go zero n h = subst P (omega (arith, h)) none
      go (suc k) n h =
          ⊎_elim (λ e. subst P (sym (eqb-true n 0 e)) none) (λ e. let more = eqb-false n 0 e in step n (omega (arith, more)) (go k (n - p) (omega (arith, h, more, some))))
          (decide (eqb n 0))

  pub pieces-sum : (n : ℕ) → sum_of (pieces p a n) ≡ n
  pieces-sum = pieces-induct (λ (n : ℕ). sum_of (pieces p a n) ≡ n) (ap sum_of pieces_none)
      (λ n h e. ap sum_of (pieces_step n h) ∙ ap (λ (x : ℕ). min p n + x) e ∙ omega arith)

  -- n, divided by p and rounded up
  abbrev rounded : ℕ → ℕ
  rounded n = (n + p - 1) / p

  one_more : (n : ℕ) → 0 < n → (ltb n p ≡ true) ⊎ (ltb n p ≡ false) → suc (rounded (n - p)) ≡ rounded n
  one_more n h (inl e) =
      let less = ltb-true n p e in
      let none : n - p + p - 1 ≡ p - 1 = omega (arith, less) in
      let parts : n + p - 1 ≡ n - 1 + p = omega (arith, h) in
      ap suc (ap (λ (x : ℕ). x / p) none ∙ div-eq_of_lt {m = p} (omega (arith, some)))
      ∙ sym (ap (λ (x : ℕ). x / p) parts ∙ add-div_right (n - 1) some ∙ ap (λ (x : ℕ). x + 1) (div-eq_of_lt {m = p} (omega (arith, less, h))) ∙ omega arith)
  one_more n h (inr e) =
      let more = ltb-false n p e in
      let rest : n - p + p - 1 ≡ n - 1 = omega (arith, more) in
      let parts : n + p - 1 ≡ n - 1 + p = omega (arith, h) in
      ap suc (ap (λ (x : ℕ). x / p) rest) ∙ sym (ap (λ (x : ℕ). x / p) parts ∙ add-div_right (n - 1) some ∙ omega arith)

  pub pieces-count : (n : ℕ) → length (pieces p a n) ≡ rounded n
  pieces-count = pieces-induct (λ (n : ℕ). length (pieces p a n) ≡ rounded n) (ap length pieces_none ∙ sym (div-eq_of_lt {m = p} (omega (arith, some))))
      (λ n h e. ap length (pieces_step n h) ∙ ap suc e ∙ one_more n h (decide (ltb n p)))
