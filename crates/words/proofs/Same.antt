-- Two lists of words compared place by place.
use mathlib.Core.Path.{◌≡◌, refl, sym, ap₂}
use mathlib.Core.Bool.{true, false}
use mathlib.Core.List.{List, [], ◌∷◌}
use Prim.Native.Nat.{ℕ}
use lib.Dec.{eqb}
use borrow.Author.Tests.{eq-eqb, eqb-true}
use Rattle.kit.proofs.Choice.{yes, both_left, both_right, never}
use Rattle.words.specs.EngineWords.{same_words}

-- lists that are found the same are equal, and a list is found the same as itself
pub same-equal : (xs ys : List ℕ) → same_words xs ys ≡ true → xs ≡ ys
same-equal [] [] e = refl
same-equal [] (y ∷ ys) e = absurd (never e)
same-equal (x ∷ xs) [] e = absurd (never e)
same-equal (x ∷ xs) (y ∷ ys) e =
    ap₂ (λ (z : ℕ) (zs : List ℕ). z ∷ zs) (eqb-true x y (both_left (eqb x y) (same_words xs ys) e)) (same-equal xs ys (both_right (eqb x y) (same_words xs ys) e))

pub same-itself : (xs : List ℕ) → same_words xs xs ≡ true
same-itself [] = refl
same-itself (x ∷ xs) = sym (yes false (eq-eqb x x refl) (sym (same-itself xs)))
