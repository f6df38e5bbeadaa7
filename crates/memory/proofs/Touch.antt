-- One window against a group of bytes: the test of the ends says the same as a test of each byte.
use mathlib.Core.Path.{◌≡◌, refl, sym}
use mathlib.Core.Bool.{Bool, true, false}
use mathlib.Core.Logic.{◌⊎◌, inl, inr}
use Prim.Native.Nat.{ℕ, suc, ◌+◌, ◌-◌, ◌≤◌, ◌<◌}
use native.Mathlib.Omega.{arith}
use lib.Dec.{leb, ltb}
use borrow.Author.Tests.{lt-ltb, le-leb, ltb-true, leb-true, leb-false}
use Rattle.kit.specs.Choice.{both, either}
use Rattle.kit.proofs.Choice.{yes, decide, both_left, both_right, both-join, either-right}
use Rattle.memory.specs.declared.window.Window.{Window}
use Rattle.memory.specs.Windows.{inside}
use Rattle.memory.specs.Interval.{touches_of}

-- two tests that imply each other are one
same : (t u : Bool) → (t ≡ true → u ≡ true) → (u ≡ true → t ≡ true) → t ≡ u
same true u f g = sym (f refl)
same false true f g = g refl
same false false f g = refl

either-cases : (t u : Bool) → either t u ≡ true → (t ≡ true) ⊎ (u ≡ true)
either-cases true u e = inl refl
either-cases false u e = inr e

module _ (w : Window) where
  record Within (a : ℕ) : Type 0 where
    from : w.start ≤ a
    below : a < w.start + w.length

  pub record Touch (a e : ℕ) : Type 0 where
    pub starts : w.start < e
    pub ends : a < w.start + w.length
    pub holds : 0 < w.length

  within : (a : ℕ) → inside w a ≡ true → Within a
  within a h = record {
    from = leb-true _ _ (both_left (leb w.start a) (ltb a (w.start + w.length)) h);
    below = ltb-true _ _ (both_right (leb w.start a) (ltb a (w.start + w.length)) h);
  }

  inside-test : (a : ℕ) → Within a → inside w a ≡ true
  inside-test a h = both-join (le-leb _ _ h.from) (lt-ltb _ _ h.below)

  pub touch : (a e : ℕ) → touches_of w a e ≡ true → Touch a e
  touch a e h =
      let t : Bool = ltb w.start e in
      let u : Bool = ltb a (w.start + w.length) in
      let v : Bool = ltb 0 w.length in
      record {
        starts = ltb-true _ _ (both_left t (both u v) h);
        ends = ltb-true _ _ (both_left u v (both_right t (both u v) h));
        holds = ltb-true _ _ (both_right u v (both_right t (both u v) h));
      }

  pub touch-test : (a e : ℕ) → Touch a e → touches_of w a e ≡ true
  touch-test a e h = both-join (lt-ltb _ _ h.starts) (both-join (lt-ltb _ _ h.ends) (lt-ltb _ _ h.holds))

  -- a group of one byte
  pub touches-one : (a : ℕ) → inside w a ≡ touches_of w a (suc a)
  touches-one a =
      same _ _
      (λ h. let k : Within a = within a h in touch-test a (suc a) (omega arith))
      (λ h. let k : Touch a (suc a) = touch a (suc a) h in inside-test a (omega arith))

  -- a longer group: its first byte, or the rest
  first-or-rest : (a e : ℕ) → suc a < e → Touch a e → (leb w.start a ≡ true) ⊎ (leb w.start a ≡ false)
      → either (inside w a) (touches_of w (suc a) e) ≡ true
  first-or-rest a e more k (inl before) =
      sym (yes _ (inside-test a (record { from = leb-true _ _ before; below = omega arith })) refl)
  first-or-rest a e more k (inr after) =
      let later : a < w.start = leb-false _ _ after in
      sym (either-right (inside w a) (sym (touch-test (suc a) e (omega arith))))

  whole : (a e : ℕ) → suc a < e → (inside w a ≡ true) ⊎ (touches_of w (suc a) e ≡ true) → touches_of w a e ≡ true
  whole a e more (inl first) = let k : Within a = within a first in touch-test a e (omega arith)
  whole a e more (inr rest) = let k : Touch (suc a) e = touch (suc a) e rest in touch-test a e (omega arith)

  pub touches-more : (a e : ℕ) → suc a < e → touches_of w a e ≡ either (inside w a) (touches_of w (suc a) e)
  touches-more a e more =
      same _ _
      (λ h. first-or-rest a e more (touch a e h) (decide (leb w.start a)))
      (λ h. whole a e more (either-cases (inside w a) (touches_of w (suc a) e) h))

  -- the same by how far the one start is above the other
  pub touches-gaps : (a n : ℕ) → 0 < n → both (ltb (a - w.start) w.length) (ltb (w.start - a) n) ≡ touches_of w a (a + n)
  touches-gaps a n some =
      same _ _
      (λ h.
      let t : a - w.start < w.length = ltb-true _ _ (both_left (ltb (a - w.start) w.length) (ltb (w.start - a) n) h) in
      let u : w.start - a < n = ltb-true _ _ (both_right (ltb (a - w.start) w.length) (ltb (w.start - a) n) h) in
      touch-test a (a + n) (record { starts = omega arith; ends = omega arith; holds = omega arith }))
      (λ h.
      let k : Touch a (a + n) = touch a (a + n) h in
      let t : a - w.start < w.length = omega (arith, k.ends, k.holds) in
      let u : w.start - a < n = omega (arith, k.starts, some) in
      both-join (lt-ltb _ _ t) (lt-ltb _ _ u))
