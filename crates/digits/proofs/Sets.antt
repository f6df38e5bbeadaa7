-- Laws of `sets`, a run of stores: a later run hides an earlier one that it covers.
use mathlib.Core.Path.{◌≡◌, refl, sym, ap, ◌∙◌}
use mathlib.Core.List.{List, [], ◌∷◌, ◌++◌}
use Prim.Native.Nat.{ℕ, suc, ◌+◌, ◌≤◌, ◌<◌}
use native.Mathlib.Omega.{arith}
use native.Mathlib.Nat.{not-suc-le-zero}
use lib.ListN.{length, set}
use lib.Seq.{sets, set-set, set_comm}
use Rattle.kit.proofs.Stores.{sets-append}

-- a store before a run may come first
sets-set : (m : List ℕ) (i : ℕ) (vs : List ℕ) (k v : ℕ) → k < i → set (sets m i vs) k v ≡ sets (set m k v) i vs
sets-set m i [] k v h = refl
sets-set m i (u ∷ vs) k v h =
    sets-set (set m i u) (suc i) vs k v (omega arith)
    ∙ ap (λ (l : List ℕ). sets l (suc i) vs) (set_comm m i k u v (λ e. omega arith))

pub sets_over : (m : List ℕ) (i : ℕ) (us vs : List ℕ) → length us ≤ length vs → sets (sets m i us) i vs ≡ sets m i vs
sets_over m i [] vs h = refl
sets_over m i (u ∷ us) [] h = absurd (not-suc-le-zero h)
sets_over m i (u ∷ us) (v ∷ vs) h =
    ap (λ (l : List ℕ). sets l (suc i) vs)
    (sets-set (set m i u) (suc i) us i v (omega arith) ∙ ap (λ (l : List ℕ). sets l (suc i) us) (set-set m i u v))
    ∙ sets_over (set m i v) (suc i) us vs (omega arith)

-- bytes that the next run covers leave no trace
pub sets-cover : (m : List ℕ) (i : ℕ) (us zs vs : List ℕ) → length zs ≤ length vs
    → sets (sets m i (us ++ zs)) (i + length us) vs ≡ sets m i (us ++ vs)
sets-cover m i us zs vs h =
    ap (λ (l : List ℕ). sets l (i + length us) vs) (sets-append m i us zs)
    ∙ sets_over (sets m i us) (i + length us) zs vs h
    ∙ sym (sets-append m i us vs)
