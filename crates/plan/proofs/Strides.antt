-- What a stride is, and bursts that are laid by strides.
use mathlib.Core.Path.{◌≡◌, refl, sym, ap, ap₂, subst, ◌∙◌}
use Prim.Native.Nat.{ℕ, zero, suc, ◌+◌, ◌-◌, ◌*◌, ◌/◌, ◌%◌, ◌≤◌, ◌<◌, ◌∣◌, ◌^◌, min}
use mathlib.Core.Bool.{true, false}
use mathlib.Core.List.{List, [], ◌∷◌, ◌++◌, append-nil}
use mathlib.Core.Logic.{◌⊎◌, inl, inr}
use lib.Count.{count_trailing_zeros}
use lib.Dec.{eqb, ltb, leb}
use lib.ListN.{length, length-append}
use native.Mathlib.Nat.{mul-div-le, mod-lt, div-add-mod, div-eq_of_lt, add-div_right, mul-add-div, mul-suc, dvd_of_mod-eq-zero, mul-suc}
use native.Mathlib.Omega.{arith}
use borrow.Author.Tests.{ltb-true, leb-true, leb-false, eqb-true, eqb-false, eq-eqb, ne_eqb}
use Rattle.kit.specs.Choice.{when}
use Rattle.kit.specs.Settings.{legal_settings}
use Rattle.kit.proofs.Choice.{decide, yes, no}
use Rattle.kit.proofs.Legal.{settings-have}
use Rattle.cut.specs.declared.Burst.{Burst}
use Rattle.cut.specs.Cut.{page}
use Rattle.plan.specs.Layout.{stride_of, even_of, laid_of}

-- what a stride of legal settings is: of whole words, and a page of whole strides
pub record Stride (w s : ℕ) : Type 0 where
  pub some : 0 < s
  pub most : s ≤ page
  pub words : w ∣ s
  pub pages : s ∣ page
  pub power : 2 ^ count_trailing_zeros 32 s ≡ s

module _ (w l : ℕ) (e : legal_settings w l ≡ true) where
  pub stride : Stride w (stride_of w l)
  unfolding count_trailing_zeros
  stride = record {
    some = ltb-true 0 (stride_of w l) (settings-have w l e (λ x y. ltb 0 (stride_of x y)) refl);
    most = leb-true (stride_of w l) page (settings-have w l e (λ x y. leb (stride_of x y) page) refl);
    words = dvd_of_mod-eq-zero w (eqb-true (stride_of w l % w) 0 (settings-have w l e (λ x y. eqb (stride_of x y % x) 0) refl));
    pages = dvd_of_mod-eq-zero (stride_of w l) (eqb-true (page % stride_of w l) 0 (settings-have w l e (λ x y. eqb (page % stride_of x y) 0) refl));
    power = eqb-true (2 ^ count_trailing_zeros 32 (stride_of w l)) (stride_of w l)
        (settings-have w l e (λ x y. eqb (2 ^ count_trailing_zeros 32 (stride_of x y)) (stride_of x y)) refl);
  }

abbrev pub laid : ℕ → ℕ → Burst
laid a n = record { start = a; bytes = n }

-- ---- bursts of one length, and what is left

pub even-length : (each k a : ℕ) → length (even_of each k a) ≡ k
even-length each zero a = refl
even-length each (suc k) a = ap suc (even-length each k (a + each))

pub even-suc : (each k a : ℕ) → even_of each (suc k) a ≡ even_of each k a ++ (laid (a + each * k) each ∷ [])
even-suc each zero a = ap (λ (x : ℕ). laid x each ∷ []) (omega arith)
even-suc each (suc k) a =
    ap (λ (bs : List Burst). laid a each ∷ bs)
    (even-suc each k (a + each) ∙ ap (λ (x : ℕ). even_of each k (a + each) ++ (laid x each ∷ [])) (omega (arith, mul-suc each k)))

-- bytes laid by strides, of which k are whole
pub record Stretch (each at bytes k : ℕ) : Type 0 where
  pub part : each * k ≤ bytes
  pub room : k ≤ length (laid_of each at bytes)
  pub exact : bytes - each * k ≡ 0 → laid_of each at bytes ≡ even_of each k at
  pub more : (bytes - each * k ≡ 0 → ⊥) → laid_of each at bytes ≡ even_of each k at ++ (laid (at + each * k) (bytes - each * k) ∷ [])
  pub longer : (bytes - each * k ≡ 0 → ⊥) → length (laid_of each at bytes) ≡ suc k

pub stretch : {each at bytes k : ℕ} → k ≡ bytes / each → Stretch each at bytes k
stretch {each} {at} {bytes} {k} i =
    subst (Stretch each at bytes) (sym i)
    (record {
      longer = λ z. length-append (even_of each q at) rest ∙ ap₂ (λ (m n : ℕ). m + n) (even-length each q at) (ap length (last z)) ∙ omega arith;
      part = mul-div-le bytes each;
      room = omega (arith, length-append (even_of each q at) rest, even-length each q at);
      exact = λ z. ap (λ (bs : List Burst). even_of each q at ++ bs) (sym (yes _ (eq-eqb (bytes % each) 0 (sym left ∙ z)) refl)) ∙ append-nil (even_of each q at);
      more = λ z. ap (λ (bs : List Burst). even_of each q at ++ bs) (last z ∙ ap (λ (n : ℕ). laid (at + each * q) n ∷ []) (sym left));
    })
  where
    q : ℕ
    q = bytes / each

    rest : List Burst
    rest = when (eqb (bytes % each) 0) [] (laid (at + each * q) (bytes % each) ∷ [])

    left : bytes - each * q ≡ bytes % each
    left = omega (arith, div-add-mod bytes each)

    last : (bytes - each * q ≡ 0 → ⊥) → rest ≡ laid (at + each * q) (bytes % each) ∷ []
    last z = sym (no _ (ne_eqb (bytes % each) 0 (λ y. z (left ∙ y))) refl)

-- how many bursts bytes take that are laid by strides
pub laid-length : (s : ℕ) → 0 < s → (a n : ℕ) → length (laid_of s a n) ≡ (n + (s - 1)) / s
laid-length s some a n = go (decide (eqb (n % s) 0))
  where
    k : ℕ
    k = n / s

    t : Stretch s a n k
    t = stretch refl

    left : n - s * k ≡ n % s
    left = omega (arith, div-add-mod n s)

    split : (m : ℕ) → n % s + (s - 1) ≡ m → (n + (s - 1)) / s ≡ k + m / s
    split m i = ap (λ (x : ℕ). x / s) (omega (arith, div-add-mod n s)) ∙ mul-add-div some k m

    go : (eqb (n % s) 0 ≡ true) ⊎ (eqb (n % s) 0 ≡ false) → length (laid_of s a n) ≡ (n + (s - 1)) / s
    go (inl i) =
        let z = eqb-true (n % s) 0 i in
        let none : (s - 1) / s ≡ 0 = div-eq_of_lt (omega arith) in
        ap length (t.exact (left ∙ z)) ∙ even-length s k a ∙ omega (arith, none, split (s - 1) (omega arith))
    go (inr i) =
        let z = eqb-false (n % s) 0 i in
        let m = n % s - 1 in
        let small : m / s ≡ 0 = div-eq_of_lt (omega (arith, mod-lt n some)) in
        t.longer (λ y. z (sym left ∙ y)) ∙ omega (arith, split (m + s) (omega (arith, z, some)), add-div_right m some, small)

-- n bytes from o on past a stride's start: the first burst goes to the stride's end
pub first_piece : (s o n first : ℕ) → 0 < s → o < s → 0 < n → first ≡ min (s - o) n → 1 + (n - first + (s - 1)) / s ≡ (o + n + (s - 1)) / s
first_piece s o n first some h i e = go (decide (leb (s - o) n))
  where
    go : (leb (s - o) n ≡ true) ⊎ (leb (s - o) n ≡ false) → 1 + (n - first + (s - 1)) / s ≡ (o + n + (s - 1)) / s
    go (inl t) =
        let j = leb-true (s - o) n t in
        let sum : o + n + (s - 1) ≡ n - first + (s - 1) + s = omega arith in
        sym (ap (λ (x : ℕ). x / s) sum ∙ add-div_right (n - first + (s - 1)) some ∙ omega arith)
    go (inr t) =
        let j = leb-false (s - o) n t in
        let sum : o + n + (s - 1) ≡ o + n - 1 + s = omega arith in
        let one : (n - first + (s - 1)) / s ≡ 0 = div-eq_of_lt (omega arith) in
        let other : (o + n - 1) / s ≡ 0 = div-eq_of_lt (omega arith) in
        ap (λ (x : ℕ). 1 + x) one ∙ sym (ap (λ (x : ℕ). x / s) sum ∙ add-div_right (o + n - 1) some ∙ ap (λ (x : ℕ). x + 1) other)
