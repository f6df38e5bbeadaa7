-- `count_of` is the number of bursts of the cut, for every width and number of beats above 0.
use mathlib.Core.Path.{◌≡◌, refl, sym, ap, ◌∙◌}
use Prim.Native.Nat.{ℕ, zero, suc, ◌+◌, ◌-◌, ◌*◌, ◌/◌, ◌%◌, ◌≤◌, ◌<◌, min}
use mathlib.Core.Bool.{true, false}
use mathlib.Core.List.{List}
use mathlib.Core.Logic.{◌⊎◌, inl, inr}
use lib.ListN.{length, length-append}
use lib.Dec.{eqb, ltb, leb}
use native.Mathlib.Nat.{add-div_right, div-eq_of_lt, le-div_iff_mul-le, mul-div_cancel, mul-add-div_right, mul_assoc, add-zero, zero-div, zero-mul, suc-mul}
use native.Mathlib.Omega.{arith}
use borrow.Author.Tests.{ltb-true, ltb-false, leb-true, leb-false, eqb-true, eqb-false}
use Rattle.kit.specs.Choice.{when}
use Rattle.kit.proofs.Choice.{decide, yes, no}
use Rattle.cut.specs.declared.Burst.{Burst}
use Rattle.cut.specs.Cut.{page, reach, burst_end, cut}
use Rattle.cut.specs.Count.{words, bursts_in_page, bursts_in_pages, count_of}
use Rattle.cut.proofs.Reach.{ends, reach-legal, whole}
use Rattle.cut.proofs.Cutting.{cut-stop, cut-ind, cut-join}

module _ (w l : ℕ) (pw : 0 < w) (pl : 0 < l) where
  -- a burst at most: one; more words than a burst has: one more than without these
  one : (n : ℕ) → 0 < n → n ≤ l → (n + l - 1) / l ≡ 1
  one n some most =
      ap (λ (k : ℕ). k / l) (omega arith) ∙ add-div_right (n - 1) pl ∙ ap (λ (k : ℕ). k + 1) (div-eq_of_lt (omega arith))

  one_more : (n : ℕ) → l < n → (n + l - 1) / l ≡ suc ((n - l + l - 1) / l)
  one_more n more =
      ap (λ (k : ℕ). k / l) (omega arith) ∙ add-div_right (n - l + l - 1) pl ∙ omega arith

  reach-is : (a : ℕ) → reach w l a ≡ min ((a / page + 1) * page) ((a / w + l) * w)
  unfolding reach
  reach-is a = refl

  one-page : (e a : ℕ) → a < e → e ≤ (a / page + 1) * page → length (cut w l a e) ≡ bursts_in_page w l a e
  unfolding bursts_in_page burst_end
  one-page e = cut-ind w l pw pl e (λ a bs. a < e → e ≤ (a / page + 1) * page → length bs ≡ bursts_in_page w l a e)
      (λ a h i. absurd (omega arith)) λ a h below i j. turn a h below j (decide (leb e (reach w l a)))
    where
      turn : (a : ℕ) → a < e
          → (burst_end w l a e < e → e ≤ (burst_end w l a e / page + 1) * page → length (cut w l (burst_end w l a e) e) ≡ bursts_in_page w l (burst_end w l a e) e)
          → e ≤ (a / page + 1) * page → (leb e (reach w l a) ≡ true) ⊎ (leb e (reach w l a) ≡ false)
          → suc (length (cut w l (burst_end w l a e) e)) ≡ bursts_in_page w l a e
      turn a h below j (inl t) =
          let i = leb-true e (reach w l a) t in
          let last = cut-stop w l (burst_end w l a e) e (omega arith) in
          let legal = reach-legal w l pw pl a e h i in
          ap (λ (bs : List Burst). suc (length bs)) last ∙ sym (one (words w a e) (omega arith) legal.words)
      turn a h below j (inr t) =
          let i = leb-false e (reach w l a) t in
          let at : (a / w + l) * w < e = omega (arith, reach-is a) in
          let here : burst_end w l a e ≡ (a / w + l) * w = omega (arith, reach-is a) in
          let past = ends w l pw pl a e h in
          let word : burst_end w l a e / w ≡ a / w + l = ap (λ (k : ℕ). k / w) here ∙ mul-div_cancel (a / w + l) pw in
          let far : a / w + l ≤ (e - 1) / w = (le-div_iff_mul-le pw).1 (omega arith) in
          let fewer : words w (burst_end w l a e) e ≡ words w a e - l = omega arith in
          ap suc (below (omega arith) (omega arith) ∙ ap (λ (n : ℕ). (n + l - 1) / l) fewer) ∙ sym (one_more (words w a e) (omega arith))

  -- n whole pages from page p on, and the last page
  whole-and-last : (n p q e : ℕ) → p + n ≡ q → q * page < e → e ≤ (q + 1) * page
      → length (cut w l (p * page) e) ≡ bursts_in_pages w l n p + bursts_in_page w l (q * page) e
  unfolding bursts_in_pages
  whole-and-last zero p q e s h i =
      ap (λ (x : ℕ). length (cut w l (x * page) e)) (omega arith) ∙ one-page e (q * page) h (omega arith) ∙ omega arith
  whole-and-last (suc n) p q e s h i =
      let next = (p + 1) * page in
      ap length (cut-join w l pw pl next e (omega arith) (omega arith) (p * page) (omega arith))
      ∙ length-append (cut w l (p * page) next) (cut w l next e)
      ∙ omega (arith, one-page next (p * page) (omega arith) (omega arith), whole-and-last n (p + 1) q e (omega arith) h i)

  pub counted : (a e : ℕ) → length (cut w l a e) ≡ count_of w l a e
  unfolding count_of
  counted a e = some (decide (ltb a e))
    where
      p : ℕ
      p = a / page

      q : ℕ
      q = (e - 1) / page

      last : a < e → (eqb p q ≡ true) ⊎ (eqb p q ≡ false)
          → length (cut w l a e)
          ≡ when (eqb p q) (bursts_in_page w l a e) (bursts_in_page w l a ((p + 1) * page) + bursts_in_pages w l (q - p - 1) (p + 1) + bursts_in_page w l (q * page) e)
      last h (inl t) = let same = eqb-true p q t in yes _ t (one-page e a h (omega arith))
      last h (inr t) =
          let other = eqb-false p q t in
          let next = (p + 1) * page in
          let later : p < q = omega arith in
          no _ t
          (ap length (cut-join w l pw pl next e (omega arith) (omega arith) a (omega arith))
          ∙ length-append (cut w l a next) (cut w l next e)
          ∙ omega (arith, one-page next a (omega arith) (omega arith), whole-and-last (q - p - 1) (p + 1) q e (omega arith) (omega arith) (omega arith)))

      some : (ltb a e ≡ true) ⊎ (ltb a e ≡ false) → length (cut w l a e) ≡ count_of w l a e
      some (inl t) = yes 0 t (last (ltb-true a e t) (decide (eqb p q)))
      some (inr t) = no _ t (ap length (cut-stop w l a e (ltb-false a e t)))

module _ (w l : ℕ) (pw : 0 < w) (d : page % w ≡ 0) where
  -- pages start at words, so the byte x of page p is in the word x / w of that page
  within : (p x : ℕ) → (p * page + x) / w ≡ p * (page / w) + x / w
  within p x =
      let even : p * page ≡ p * (page / w) * w = ap (λ (k : ℕ). p * k) (whole w l pw page d) ∙ sym (mul_assoc p (page / w) w) in
      ap (λ (k : ℕ). (k + x) / w) even ∙ mul-add-div_right pw (p * (page / w)) x

  page-alike : (p : ℕ) → bursts_in_page w l (p * page) ((p + 1) * page) ≡ bursts_in_page w l 0 page
  unfolding bursts_in_page
  page-alike p =
      let first = ap (λ (k : ℕ). k / w) (sym (add-zero (p * page))) ∙ within p 0 in
      let last : ((p + 1) * page - 1) / w ≡ p * (page / w) + (page - 1) / w = ap (λ (k : ℕ). k / w) (omega arith) ∙ within p (page - 1) in
      ap (λ (n : ℕ). (n + 1 + l - 1) / l) (omega (arith, first, last, zero-div w))

  pub whole-pages : (n p : ℕ) → bursts_in_pages w l n p ≡ n * bursts_in_page w l 0 page
  unfolding bursts_in_pages
  whole-pages zero p = sym (zero-mul (bursts_in_page w l 0 page))
  whole-pages (suc n) p = omega (arith, page-alike p, whole-pages n (p + 1), suc-mul n (bursts_in_page w l 0 page))
