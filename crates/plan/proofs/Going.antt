-- Bytes that go by strides: from a word's start on in one page, or from a stride's start on. Their cut is laid by strides.
use mathlib.Core.Path.{◌≡◌, refl, sym, ap, ap₂, subst, ◌∙◌}
use Prim.Native.Nat.{ℕ, zero, suc, ◌+◌, ◌-◌, ◌*◌, ◌/◌, ◌%◌, ◌≤◌, ◌<◌, ◌∣◌, min}
use mathlib.Core.Bool.{true, false}
use mathlib.Core.List.{List, [], ◌∷◌, ◌++◌}
use mathlib.Core.Logic.{◌⊎◌, inl, inr}
use lib.Dec.{eqb}
use native.Mathlib.Nat.{add-mul, mul_comm, mul-suc, mul-div-le, mod-lt, div-add-mod, div-mul_cancel, dvd_refl, dvd-add, dvd-sub, dvd-mul_left_of_dvd, le_of_dvd}
use native.Mathlib.Omega.{arith}
use borrow.Author.Tests.{eqb-true, eqb-false}
use Rattle.kit.specs.Choice.{when}
use Rattle.kit.specs.Settings.{legal_settings}
use Rattle.kit.proofs.Choice.{decide, yes, no}
use Rattle.kit.proofs.Legal.{legal}
use Rattle.cut.specs.declared.Burst.{Burst}
use Rattle.cut.specs.Cut.{page, reach, burst_end, burst, cut}
use Rattle.cut.proofs.Cutting.{cut-stop, cut_step}
use Rattle.plan.specs.Layout.{stride_of, even_of, laid_of}
use Rattle.plan.proofs.Strides.{stride, laid}

abbrev pub page_end : ℕ → ℕ
page_end a = (a / page + 1) * page

module _ (w l : ℕ) (e : legal_settings w l ≡ true) where
  abbrev pub s : ℕ
  s = stride_of w l

  -- n bytes from a on go by strides: they start at a word, and start at a stride or are in one page
  pub record Goes (a n : ℕ) : Type 0 where
    pub word : 0 < n → w ∣ a
    pub lies : (s ∣ a) ⊎ (a + n ≤ page_end a)

  goes-page : (a n : ℕ) → Goes a n → a + min s n ≤ page_end a
  goes-page a n g = go g.lies
    where
      -- a page's end is a whole stride past a stride's start, or more
      far : s ∣ a → s ≤ page_end a - a
      far d = le_of_dvd (omega arith) (dvd-sub s (dvd-mul_left_of_dvd s (stride w l e).pages (a / page + 1)) d)

      go : (s ∣ a) ⊎ (a + n ≤ page_end a) → a + min s n ≤ page_end a
      go (inl d) = omega (arith, far d)
      go (inr i) = omega arith

  goes_on : (a n : ℕ) → Goes a n → s ≤ n → Goes (a + s) (n - s)
  goes_on a n g h = record { word = λ i. dvd-add w (g.word (omega arith)) (stride w l e).words; lies = go g.lies }
    where
      go : (s ∣ a) ⊎ (a + n ≤ page_end a) → (s ∣ a + s) ⊎ (a + s + (n - s) ≤ page_end (a + s))
      go (inl d) = inl (dvd-add s d (dvd_refl s))
      go (inr i) = inr (omega arith)

  -- the first burst of bytes that go by strides has a stride's bytes, or is all of them
  goes-burst : (a n : ℕ) → Goes a n → 0 < n → burst_end w l a (a + n) ≡ a + min s n
  unfolding burst_end reach
  goes-burst a n g h =
      let start : a / w * w ≡ a = div-mul_cancel w (g.word h) in
      omega (arith, goes-page a n g, add-mul (a / w) l w, mul_comm l w, start)

  goes_to : {a b n m : ℕ} → a ≡ b → n ≡ m → Goes a n → Goes b m
  goes_to {a} {m = m} i j g = subst (λ (x : ℕ). Goes x m) i (subst (Goes a) j g)

  pub burst-is : (a n : ℕ) → burst a (a + n) ≡ laid a n
  burst-is a n = ap (laid a) (omega arith)

  -- k strides, and the bytes behind them
  cut-even : (k a n end : ℕ) → a + n ≡ end → Goes a n → s * k ≤ n
      → (cut w l a end ≡ even_of s k a ++ cut w l (a + s * k) end) × Goes (a + s * k) (n - s * k)
  cut-even zero a n end i g h = (ap (λ (x : ℕ). cut w l x end) (omega arith), goes_to (omega arith) (omega arith) g)
  cut-even (suc k) a n end i g h =
      let p = legal w l e in
      let some = (stride w l e).some in
      let grows = mul-suc s k in
      let stop : burst_end w l a end ≡ a + s = ap (burst_end w l a) (sym i) ∙ goes-burst a n g (omega arith) ∙ omega arith in
      let (more, goes) = cut-even k (a + s) (n - s) end (omega arith) (goes_on a n g (omega arith)) (omega arith) in
      let there : a + s + s * k ≡ a + s * suc k = omega arith in (
        cut_step w l p.width_positive p.beats-positive a end (omega arith)
            ∙ ap (λ (x : ℕ). burst a x ∷ cut w l x end) stop
            ∙ ap₂ (λ (b : Burst) (bs : List Burst). b ∷ bs) (burst-is a s) (more ∙ ap (λ (x : ℕ). even_of s k (a + s) ++ cut w l x end) there),
        goes_to there (omega arith) goes,
      )

  cut-last : (a n : ℕ) → Goes a n → n < s → cut w l a (a + n) ≡ when (eqb n 0) [] (laid a n ∷ [])
  cut-last a n g h = go (decide (eqb n 0))
    where
      go : (eqb n 0 ≡ true) ⊎ (eqb n 0 ≡ false) → cut w l a (a + n) ≡ when (eqb n 0) [] (laid a n ∷ [])
      go (inl t) = yes _ t (cut-stop w l a (a + n) (let z = eqb-true n 0 t in omega arith))
      go (inr t) =
          let p = legal w l e in
          let z = eqb-false n 0 t in
          let some : 0 < n = omega (arith, z) in
          let stop : burst_end w l a (a + n) ≡ a + n = goes-burst a n g some ∙ omega arith in
          no _ t
          (cut_step w l p.width_positive p.beats-positive a (a + n) (omega arith)
          ∙ ap (λ (x : ℕ). burst a x ∷ cut w l x (a + n)) stop
          ∙ ap₂ (λ (b : Burst) (bs : List Burst). b ∷ bs) (burst-is a n) (cut-stop w l (a + n) (a + n) (omega arith)))

  -- bytes that go by strides are laid by them
  pub cut-laid : (a n : ℕ) → Goes a n → cut w l a (a + n) ≡ laid_of s a n
  cut-laid a n g =
      let k = n / s in
      let (first, goes) = cut-even k a n (a + n) refl g (mul-div-le n s) in
      let left : n - s * k ≡ n % s = omega (arith, div-add-mod n s) in
      let end : a + n ≡ a + s * k + n % s = omega (arith, div-add-mod n s) in
      first
      ∙ ap (λ (bs : List Burst). even_of s k a ++ bs)
      (ap (cut w l (a + s * k)) end ∙ cut-last (a + s * k) (n % s) (goes_to refl left goes) (mod-lt n (stride w l e).some))
