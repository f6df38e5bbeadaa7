-- Laws of `sets`, a run of stores: what it changes, and what it leaves.
use mathlib.Core.Path.{◌≡◌, refl, sym, ap, ◌∙◌}
use mathlib.Core.Logic.{◌⊎◌, inl, inr, ⊎_elim}
use mathlib.Core.List.{List, [], ◌∷◌, ◌++◌, append_assoc}
use Prim.Native.Nat.{ℕ, zero, suc, ◌+◌, ◌-◌, ◌≤◌, ◌<◌}
use native.Mathlib.Omega.{arith}
use native.Mathlib.Nat.{not-suc-le-zero, add-zero, add-suc, suc-add}
use lib.ListN.{length, get_or, set, take, drop, length-set}
use lib.Seq.{sets, sets-eq, get_or-set_same, get_or-set_other, drop-set-lt, drop-set-add, take-set-le, take_at, drop_at, length-take-le}

module _ {ℓ} {A : Type ℓ} where
  -- ---- elements

  pub sets-before : (m : List A) (i : ℕ) (vs : List A) (k : ℕ) (d : A) → k < i → get_or (sets m i vs) k d ≡ get_or m k d
  sets-before m i [] k d h = refl
  sets-before m i (v ∷ vs) k d h =
      sets-before (set m i v) (suc i) vs k d (omega arith) ∙ get_or-set_other m i k v d (λ e. omega arith)

  pub sets-after : (m : List A) (i : ℕ) (vs : List A) (k : ℕ) (d : A) → i + length vs ≤ k → get_or (sets m i vs) k d ≡ get_or m k d
  sets-after m i [] k d h = refl
  sets-after m i (v ∷ vs) k d h =
      sets-after (set m i v) (suc i) vs k d (omega arith) ∙ get_or-set_other m i k v d (λ e. omega arith)

  pub sets-outside : (m : List A) (i : ℕ) (vs : List A) (k : ℕ) (d : A) → (k < i) ⊎ (i + length vs ≤ k)
      → get_or (sets m i vs) k d ≡ get_or m k d
  sets-outside m i vs k d h = ⊎_elim (sets-before m i vs k d) (sets-after m i vs k d) h

  pub sets-inside : (m : List A) (i : ℕ) (vs : List A) (j : ℕ) (d : A) → j < length vs → i + length vs ≤ length m
      → get_or (sets m i vs) (i + j) d ≡ get_or vs j d
  sets-inside m i [] j d h fits = absurd (not-suc-le-zero h)
  sets-inside m i (v ∷ vs) zero d h fits =
      sets-before (set m i v) (suc i) vs (i + 0) d (omega arith)
      ∙ ap (λ (k : ℕ). get_or (set m i v) k d) (add-zero i)
      ∙ get_or-set_same m i v d (omega arith)
  sets-inside m i (v ∷ vs) (suc j) d h fits =
      ap (λ (k : ℕ). get_or (sets (set m i v) (suc i) vs) k d) (add-suc i j ∙ sym (suc-add i j))
      ∙ sets-inside (set m i v) (suc i) vs j d (omega arith) (simp length-set (omega arith))

  -- ---- parts

  -- what was stored is read back
  pub sets-part : (m : List A) (i : ℕ) (vs : List A) (n : ℕ) → n ≡ length vs → i + length vs ≤ length m
      → take n (drop i (sets m i vs)) ≡ vs
  sets-part m i vs n e fits =
      ap (λ (l : List A). take n (drop i l)) (sets-eq vs m i fits ∙ append_assoc (take i m) vs (drop (i + length vs) m))
      ∙ ap (take n) (drop_at (take i m) (vs ++ drop (i + length vs) m) i (length-take-le i m (omega arith)))
      ∙ take_at vs (drop (i + length vs) m) n (sym e)

  set_apart : (m : List A) (i : ℕ) (v : A) (a n : ℕ) → (a + n ≤ i) ⊎ (i < a) → take n (drop a (set m i v)) ≡ take n (drop a m)
  set_apart m i v a n (inl h) =
      ap (λ (k : ℕ). take n (drop a (set m k v))) (omega arith)
      ∙ ap (take n) (drop-set-add a m (i - a) v)
      ∙ take-set-le n (drop a m) (i - a) v (omega arith)
  set_apart m i v a n (inr h) = ap (take n) (drop-set-lt a m i v h)

  -- a part that no store reaches is as it was
  pub sets-apart : (m : List A) (i : ℕ) (vs : List A) (a n : ℕ) → (a + n ≤ i) ⊎ (i + length vs ≤ a)
      → take n (drop a (sets m i vs)) ≡ take n (drop a m)
  sets-apart m i [] a n h = refl
  sets-apart m i (v ∷ vs) a n (inl h) =
      sets-apart (set m i v) (suc i) vs a n (inl (omega arith)) ∙ set_apart m i v a n (inl h)
  sets-apart m i (v ∷ vs) a n (inr h) =
      sets-apart (set m i v) (suc i) vs a n (inr (omega arith)) ∙ set_apart m i v a n (inr (omega arith))
