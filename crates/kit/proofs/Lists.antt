-- Laws of `among`: a number that stands in a list of numbers has what every number of the list has.
use mathlib.Core.Path.{◌≡◌, refl, ap, ◌∙◌}
use Prim.Native.Nat.{ℕ}
use mathlib.Core.Bool.{Bool, true, false}
use mathlib.Core.List.{List, [], ◌∷◌}
use mathlib.Core.Logic.{inl, inr}
use lib.Dec.{eqb}
use types.Run.{OneOf}
use borrow.Author.Tests.{eq-eqb, ne_eqb, eqb-true}
use Rattle.kit.specs.Choice.{both, either}
use Rattle.kit.specs.Settings.{among}
use Rattle.kit.proofs.Choice.{yes, no, both_left, both_right, either-right, never}

pub among-yes : (x : ℕ) (ks : List ℕ) → OneOf ks x → true ≡ among x ks
among-yes x [] h = absurd h
among-yes x (k ∷ []) e = yes _ (eq-eqb x k e) refl
among-yes x (k ∷ j ∷ ks) (inl e) = yes _ (eq-eqb x k e) refl
among-yes x (k ∷ j ∷ ks) (inr h) = either-right (eqb x k) (among-yes x (j ∷ ks) h)

pub among-no : (x : ℕ) (ks : List ℕ) → (OneOf ks x → ⊥) → false ≡ among x ks
among-no x [] h = refl
among-no x (k ∷ []) h = no _ (ne_eqb x k h) refl
among-no x (k ∷ j ∷ ks) h = no _ (ne_eqb x k (λ e. h (inl e))) (among-no x (j ∷ ks) (λ o. h (inr o)))

-- the test holds of each number of the list
abbrev pub each : (ℕ → Bool) → List ℕ → Bool
each P [] = true
each P (k ∷ ks) = both (P k) (each P ks)

pub among-each : (P : ℕ → Bool) (x : ℕ) (ks : List ℕ) → each P ks ≡ true → among x ks ≡ true → P x ≡ true
among-each P x [] a h = absurd (never h)
among-each P x (k ∷ ks) a h = go (eqb x k) refl h (among-each P x ks (both_right (P k) (each P ks) a))
  where
    go : (t : Bool) → eqb x k ≡ t → either t (among x ks) ≡ true → (among x ks ≡ true → P x ≡ true) → P x ≡ true
    go true e _ _ = ap P (eqb-true x k e) ∙ both_left (P k) (each P ks) a
    go false e i f = f i
