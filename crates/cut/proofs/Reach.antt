-- Laws of `reach`: a burst from a is legal exactly up to there, for any width and number of beats above 0.
use mathlib.Core.Path.{◌≡◌, ap, ap₂, sym, ◌∙◌}
use Prim.Native.Nat.{ℕ, ◌+◌, ◌-◌, ◌*◌, ◌/◌, ◌%◌, ◌≤◌, ◌<◌, min}
use native.Mathlib.Nat.{add-mul, mul_comm, mul-le-mul_right, lt-div-mul-add, div-lt_iff_lt-mul, le-div_iff_mul-le, div-mul-le_self, div-add-mod', mul_assoc, mul-mod_left, le_trans}
use native.Mathlib.Omega.{arith}
use mathlib.Core.Bool.{true, false}
use mathlib.Core.Logic.{◌⊎◌, inl, inr}
use lib.Dec.{leb}
use borrow.Author.Tests.{leb-true, leb-false}
use Rattle.kit.proofs.Choice.{decide}
use Rattle.cut.specs.Cut.{page, reach, burst_end, bytes_within, burst_bytes}
use Rattle.cut.specs.Legal.{Legal}

min_assoc : (x y z : ℕ) → min (min x y) z ≡ min x (min y z)
min_assoc x y z = omega arith

min-less : (x y a : ℕ) → min x y - a ≡ min (x - a) (y - a)
min-less x y a = omega arith

module _ (w l : ℕ) where
  -- the word limit, reckoned from the start of a's word
  span : (a : ℕ) → (a / w + l) * w ≡ a / w * w + w * l
  span a = add-mul (a / w) l w ∙ ap (λ (k : ℕ). a / w * w + k) (mul_comm l w)

  -- a burst's end, as a length
  pub burst-bytes : (a n : ℕ) → bytes_within (w * l - a % w) a n ≡ burst_bytes w l a n
  unfolding burst_end reach
  burst-bytes a n =
      let P = (a / page + 1) * page in
      let Q = (a / w + l) * w in
      let p : page - a % page ≡ P - a = omega arith in
      let q : w * l - a % w ≡ Q - a = omega (arith, span a, div-add-mod' a w) in
      let r : n ≡ a + n - a = omega arith in
      ap₂ min p (ap₂ min q r) ∙ sym (min_assoc (P - a) (Q - a) (a + n - a))
      ∙ ap (λ (k : ℕ). min k (a + n - a)) (sym (min-less P Q a)) ∙ sym (min-less (min P Q) (a + n) a)

  module _ (pw : 0 < w) where
    div_mono : {a b : ℕ} → a ≤ b → a / w ≤ b / w
    div_mono {a} {b} h = (le-div_iff_mul-le pw).1 (le_trans (div-mul-le_self a w) h)

    plus : (k : ℕ) {m n : ℕ} → m ≤ n → m + k ≤ n + k
    plus k h = omega arith

    pub reach-mono : (a b : ℕ) → a ≤ b → reach w l a ≤ reach w l b
    unfolding reach
    reach-mono a b h = omega (arith, mul-le-mul_right w (plus l (div_mono h)))

    pub legal-reach : (a b : ℕ) → Legal w l a b → b ≤ reach w l a
    unfolding reach
    legal-reach a b legal =
        let inside : (b - 1) / w < a / w + l = omega (arith, legal.words) in
        omega (arith, legal.some, legal.same_page, (div-lt_iff_lt-mul pw).0 inside)

    pub whole : (n : ℕ) → n % w ≡ 0 → n ≡ n / w * w
    whole n d = omega (arith, div-add-mod' n w)

    -- if pages hold whole words, a burst that stops short of the transfer's end stops at the start of a word
    pub end-aligned : 4096 % w ≡ 0 → (a e : ℕ) → burst_end w l a e < e → burst_end w l a e % w ≡ 0
    unfolding burst_end reach
    end-aligned d a e h = nearer (decide (leb P Q))
      where
        P : ℕ
        P = (a / page + 1) * page

        Q : ℕ
        Q = (a / w + l) * w

        at-page : P % w ≡ 0
        at-page =
            ap (λ (n : ℕ). (a / page + 1) * n % w) (whole 4096 d)
            ∙ ap (λ (n : ℕ). n % w) (sym (mul_assoc (a / page + 1) (4096 / w) w)) ∙ mul-mod_left ((a / page + 1) * (4096 / w)) w

        nearer : (leb P Q ≡ true) ⊎ (leb P Q ≡ false) → min (min P Q) e % w ≡ 0
        nearer (inl t) = ap (λ (n : ℕ). n % w) (let i = leb-true P Q t in omega arith) ∙ at-page
        nearer (inr t) = ap (λ (n : ℕ). n % w) (let i = leb-false P Q t in omega arith) ∙ mul-mod_left (a / w + l) w

    module _ (pl : 0 < l) where
      pub reach-past : (a : ℕ) → a < reach w l a
      unfolding reach
      reach-past a = omega (arith, add-mul (a / w) l w, lt-div-mul-add {a = a} pw, mul-le-mul_right w pl)

      pub reach-legal : (a b : ℕ) → a < b → b ≤ reach w l a → Legal w l a b
      unfolding reach
      reach-legal a b some h =
          let inside : (b - 1) / w < a / w + l = (div-lt_iff_lt-mul pw).1 (omega arith) in
          record { some = some; same_page = omega arith; words = omega arith }

      -- where a burst of a transfer ends: past its start, no farther than is legal, nor than the transfer's end
      pub record Ends (a e : ℕ) : Type 0 where
        pub past : a < burst_end w l a e
        pub most : burst_end w l a e ≤ reach w l a
        pub within : burst_end w l a e ≤ e

      pub ends : (a e : ℕ) → a < e → Ends a e
      unfolding burst_end
      ends a e h = let p = reach-past a in record { past = omega arith; most = omega arith; within = omega arith }
