-- Laws of `when`: a result is the choice's once its test is known.
use mathlib.Core.Path.{◌≡◌, refl, sym, subst}
use mathlib.Core.Bool.{Bool, true, false}
use mathlib.Core.Logic.{◌⊎◌, inl, inr}
use lib.Dec.{T}
use Rattle.kit.specs.Choice.{when, both, either}

-- the test holds, and the result is the first
pub yes {ℓ} : {A : Type ℓ} {t : Bool} {r a : A} (b : A) → t ≡ true → r ≡ a → r ≡ when t a b
yes {r = r} {a = a} b e p = subst (λ (s : Bool). r ≡ when s a b) (sym e) p

-- the test fails, and the result is the second
pub no {ℓ} : {A : Type ℓ} {t : Bool} {r b : A} (a : A) → t ≡ false → r ≡ b → r ≡ when t a b
no {r = r} {b = b} a e p = subst (λ (s : Bool). r ≡ when s a b) (sym e) p

-- what holds of both results, each under its test, holds of the choice
pub cases {ℓ κ} : {A : Type ℓ} (P : A → Type κ) (t : Bool) {a b : A} → (t ≡ true → P a) → (t ≡ false → P b) → P (when t a b)
cases P true f g = f refl
cases P false f g = g refl

-- a test is one or the other, and never both
pub decide : (t : Bool) → (t ≡ true) ⊎ (t ≡ false)
decide true = inl refl
decide false = inr refl

pub never : false ≡ true → ⊥
never e = subst T (sym e) tt

-- a chain of refusals that ends in true went past each
pub passed : (t b : Bool) → when t false b ≡ true → (t ≡ false) × (b ≡ true)
passed true b e = absurd (never e)
passed false b e = (refl, e)

pub both_left : (t u : Bool) → both t u ≡ true → t ≡ true
both_left true u e = refl
both_left false u e = e

pub both_right : (t u : Bool) → both t u ≡ true → u ≡ true
both_right true u e = e
both_right false u e = absurd (never e)

pub both-join : {t u : Bool} → t ≡ true → u ≡ true → both t u ≡ true
both-join {t} {u} e f = subst (λ (b : Bool). both b u ≡ true) (sym e) f

pub either-right : (t : Bool) {u : Bool} → true ≡ u → true ≡ either t u
either-right true e = refl
either-right false e = e

pub neither : (t u : Bool) → either t u ≡ false → (t ≡ false) × (u ≡ false)
neither true u e = absurd (never (sym e))
neither false u e = (refl, e)
