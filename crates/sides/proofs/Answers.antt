-- Laws of what the bytes on one side answer: as those of proofs/Places.antt.
use mathlib.Core.Path.{◌≡◌, refl, sym, ap, ap₂, ◌∙◌}
use mathlib.Core.Bool.{Bool, false}
use mathlib.Core.List.{List}
use Prim.Native.Nat.{ℕ, zero, suc, ◌+◌, ◌-◌, ◌≤◌, ◌<◌, min}
use native.Mathlib.Omega.{arith, min_cases}
use native.Mathlib.Nat.{not-suc-le-zero, add-zero, add-suc, suc-add, zero-add}
use native.Mathlib.Numerals.{add-one}
use lib.Dec.{leb}
use borrow.Author.Tests.{leb-false, le-leb}
use Rattle.kit.specs.Choice.{either}
use Rattle.kit.proofs.Choice.{yes, neither}
use Rattle.memory.specs.declared.window.Window.{Window}
use Rattle.memory.specs.declared.verdict.Verdict.{Verdict}
use Rattle.memory.specs.declared.verdict.Verdict.TheVariants.{Okay, Slave, Decode}
use Rattle.memory.specs.Windows.{sick}
use Rattle.memory.specs.Verdict.{byte_of, worse, group_of, pair_of}
use Rattle.memory.proofs.Verdicts.{worse-right-okay, worse-okay, okay-no-decode}
use Rattle.sides.specs.Sides.{place_of, Inside, side_answer, sides_answer}
use Rattle.sides.proofs.Places.{Along, Run, Period, over, along-head, along-tail, plain-run}

worse-assoc : (u v z : Verdict) → worse (worse u v) z ≡ worse u (worse v z)
worse-assoc Okay v z = refl
worse-assoc Slave Okay z = refl
worse-assoc Slave Slave Okay = refl
worse-assoc Slave Slave Slave = refl
worse-assoc Slave Slave Decode = refl
worse-assoc Slave Decode z = refl
worse-assoc Decode v z = refl

worse-again : (u v : Verdict) → worse (worse u v) u ≡ worse u v
worse-again Okay v = worse-right-okay v
worse-again Slave Okay = refl
worse-again Slave Slave = refl
worse-again Slave Decode = refl
worse-again Decode v = refl

module _ (size : ℕ) (ws : List Window) where
  pub answer-along : (place : ℕ → ℕ) (k : ℕ) (other : ℕ → ℕ) (j n : ℕ) → Along place k other j n
      → side_answer size ws place k n ≡ side_answer size ws other j n
  unfolding side_answer
  answer-along place k other j zero h = refl
  answer-along place k other j (suc n) h =
      ap₂ (λ (x : ℕ) (v : Verdict). worse (byte_of size ws x) v) (along-head place k other j n h) (answer-along place (suc k) other (suc j) n (along-tail place k other j n h))

  answer-straight : (a n : ℕ) → side_answer size ws (λ x. x) a n ≡ group_of size ws a n
  unfolding side_answer group_of
  answer-straight a zero = refl
  answer-straight a (suc n) = ap (worse (byte_of size ws a)) (answer-straight (suc a) n)

  pub answer-run : (place : ℕ → ℕ) (k a n : ℕ) → Run place k a n → side_answer size ws place k n ≡ group_of size ws a n
  answer-run place k a n h = answer-along place k (λ x. x) a n h ∙ answer-straight a n

  pub plain-answer : (w a k n : ℕ) → side_answer size ws (place_of false w a) k n ≡ group_of size ws (a + k) n
  plain-answer w a k n = answer-run (place_of false w a) k (a + k) n (plain-run w a k n)

  -- where neither side is fixed, two groups are what the sides answer
  pub plain-pair : (f g : Bool) (w a b k n : ℕ) → either f g ≡ false
      → pair_of size ws (a + k) (b + k) n ≡ sides_answer size ws (place_of f w a) (place_of g w b) k n
  plain-pair f g w a b k n e =
      let h = neither f g e in rw (h.0, h.1) (sym (ap₂ worse (plain-answer w a k n) (plain-answer w b k n)))

  module _ (place : ℕ → ℕ) where
    pub answer-append : (k a b : ℕ) → side_answer size ws place k (a + b) ≡ worse (side_answer size ws place k a) (side_answer size ws place (k + a) b)
    unfolding side_answer
    answer-append k zero b = ap₂ (side_answer size ws place) (sym (add-zero k)) (zero-add b)
    answer-append k (suc a) b =
        ap (side_answer size ws place k) (suc-add a b)
        ∙ ap (worse (byte_of size ws (place k))) (answer-append (suc k) a b)
        ∙ sym (worse-assoc (byte_of size ws (place k)) (side_answer size ws place (suc k) a) (side_answer size ws place (suc k + a) b))
        ∙ ap (λ (x : ℕ). worse (side_answer size ws place k (suc a)) (side_answer size ws place x b)) (over k a)

    -- a byte that is one of them changes nothing
    answer-member : (k n i : ℕ) → i < n → worse (side_answer size ws place k n) (byte_of size ws (place (k + i))) ≡ side_answer size ws place k n
    unfolding side_answer
    answer-member k zero i h = absurd (not-suc-le-zero h)
    answer-member k (suc n) zero h =
        ap (λ (x : ℕ). worse (side_answer size ws place k (suc n)) (byte_of size ws (place x))) (add-zero k)
        ∙ worse-again (byte_of size ws (place k)) (side_answer size ws place (suc k) n)
    answer-member k (suc n) (suc i) h =
        worse-assoc (byte_of size ws (place k)) (side_answer size ws place (suc k) n) (byte_of size ws (place (k + suc i)))
        ∙ ap (λ (x : ℕ). worse (byte_of size ws (place k)) (worse (side_answer size ws place (suc k) n) (byte_of size ws (place x)))) (sym (over k i))
        ∙ ap (worse (byte_of size ws (place k))) (answer-member (suc k) n i (omega arith))

    -- bytes that answer OKAY lie in the memory
    pub answer-inside : (k n : ℕ) → side_answer size ws place k n ≡ Okay → Inside size place k n
    unfolding side_answer
    answer-inside k zero e i h = absurd (not-suc-le-zero h)
    answer-inside k (suc n) e zero h =
        let parts = worse-okay (byte_of size ws (place k)) (side_answer size ws place (suc k) n) e in
        omega (arith, ap place (add-zero k), leb-false size (place k) (okay-no-decode (leb size (place k)) (sick ws (place k)) parts.0))
    answer-inside k (suc n) e (suc i) h =
        let parts = worse-okay (byte_of size ws (place k)) (side_answer size ws place (suc k) n) e in
        omega (arith, ap place (over k i), answer-inside (suc k) n parts.1 i (omega arith))

    pub answer-past : (k n : ℕ) → 0 < n → size ≤ place k → Decode ≡ side_answer size ws place k n
    unfolding side_answer
    answer-past k zero h past = absurd (not-suc-le-zero h)
    answer-past k (suc n) h past =
        ap (λ (v : Verdict). worse v (side_answer size ws place (suc k) n)) (yes _ (le-leb size (place k) past) refl)

    module _ (w : ℕ) (some : 0 < w) (again : Period place w) where
      answer-more : (k d : ℕ) → side_answer size ws place k (w + d) ≡ side_answer size ws place k w
      unfolding side_answer
      answer-more k zero = ap (side_answer size ws place k) (add-zero w)
      answer-more k (suc d) =
          let back : k + (w + d) ≡ k + d + w = omega arith in
          ap (side_answer size ws place k) (add-suc w d ∙ sym (add-one (w + d)))
          ∙ answer-append k (w + d) (suc zero)
          ∙ ap (worse (side_answer size ws place k (w + d))) (worse-right-okay (byte_of size ws (place (k + (w + d)))))
          ∙ ap (λ (x : ℕ). worse (side_answer size ws place k (w + d)) (byte_of size ws x)) (ap place back ∙ again (k + d))
          ∙ answer-member k (w + d) d (omega arith)
          ∙ answer-more k d

      -- where the places come again after w bytes, the first w bytes answer for all
      pub answer-least : (k n c : ℕ) → c ≡ min n w → side_answer size ws place k n ≡ side_answer size ws place k c
      answer-least k n c e = min_cases n w _
          (λ l q. ap (side_answer size ws place k) (omega arith))
          (λ l q. let parts : n ≡ w + (n - w) = omega arith in
          ap (side_answer size ws place k) parts ∙ answer-more k (n - w) ∙ ap (side_answer size ws place k) (sym (e ∙ q)))

  pub sides-inside : (reads writes : ℕ → ℕ) (k n : ℕ) → sides_answer size ws reads writes k n ≡ Okay → Inside size reads k n × Inside size writes k n
  sides-inside reads writes k n e =
      let each = worse-okay (side_answer size ws reads k n) (side_answer size ws writes k n) e in
      (answer-inside reads k n each.0, answer-inside writes k n each.1)
