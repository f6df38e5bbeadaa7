-- A group of bytes judged by its ends: the verdict of every byte, as RULES.md states it, is two tests.
use mathlib.Core.Path.{◌≡◌, refl, sym, ap, ap₂, ◌∙◌}
use mathlib.Core.Bool.{Bool, true, false}
use mathlib.Core.Logic.{◌⊎◌, inl, inr}
use mathlib.Core.List.{List, [], ◌∷◌}
use Prim.Native.Nat.{ℕ, zero, suc, ◌+◌, ◌≤◌, ◌<◌}
use native.Mathlib.Omega.{arith}
use native.Mathlib.Nat.{not-suc-le-zero, add-suc, suc-add}
use native.Mathlib.Numerals.{add-one}
use lib.Dec.{leb, ltb, leb-suc-suc}
use borrow.Author.Tests.{lt-ltb, le-ltb, ltb-false, leb-true}
use Rattle.kit.specs.Choice.{either}
use Rattle.kit.proofs.Choice.{yes, no, either-right}
use Rattle.memory.specs.declared.window.Window.{Window}
use Rattle.memory.specs.declared.verdict.Verdict.TheVariants.{Okay, Slave, Decode}
use Rattle.memory.specs.Windows.{sick, inside}
use Rattle.memory.specs.Verdict.{worse, byte_of, group_of, pair_of}
use Rattle.memory.specs.Interval.{touches_of, hit}
use Rattle.memory.proofs.Touch.{touches-one, touches-more}
use Rattle.memory.proofs.Verdicts.{verdict_by, worse-by, worse-right-okay, worse-okay, okay-no-decode}

hit-one : (ws : List Window) (a : ℕ) → sick ws a ≡ hit ws a (suc a)
unfolding sick
hit-one [] a = refl
hit-one (w ∷ ws) a =
    ap (λ (t : Bool). either t (sick ws a)) (touches-one w a) ∙ ap (λ (t : Bool). either (touches_of w a (suc a)) t) (hit-one ws a)

pub swap : (t u v z : Bool) → either (either t u) (either v z) ≡ either (either t v) (either u z)
swap true u v z = refl
swap false true true z = refl
swap false true false z = refl
swap false false v z = refl

hit-more : (ws : List Window) (a e : ℕ) → suc a < e → hit ws a e ≡ either (sick ws a) (hit ws (suc a) e)
unfolding sick
hit-more [] a e h = refl
hit-more (w ∷ ws) a e h =
    ap (λ (t : Bool). either t (hit ws a e)) (touches-more w a e h)
    ∙ ap (λ (t : Bool). either (either (inside w a) (touches_of w (suc a) e)) t) (hit-more ws a e h)
    ∙ swap (inside w a) (touches_of w (suc a) e) (sick ws a) (hit ws (suc a) e)

-- the first byte of a group lies past the memory only where the last one does
past_more : (size a e : ℕ) → suc a < e → either (leb size a) (ltb size e) ≡ ltb size e
past_more size a e h = go (leb size a) refl
  where
    go : (t : Bool) → leb size a ≡ t → either t (ltb size e) ≡ ltb size e
    go true q = sym (lt-ltb size e (omega (arith, leb-true size a q)))
    go false q = refl

group-by : (size : ℕ) (ws : List Window) (a n : ℕ) → group_of size ws a (suc n) ≡ verdict_by (ltb size (a + suc n)) (hit ws a (a + suc n))
unfolding group_of
group-by size ws a zero =
    worse-right-okay (byte_of size ws a)
    ∙ ap₂ verdict_by (sym (leb-suc-suc size a)) (hit-one ws a)
    ∙ ap (λ (e : ℕ). verdict_by (ltb size e) (hit ws a e)) (sym (add-one a))
group-by size ws a (suc n) =
    let e : ℕ = suc a + suc n in
    let more : suc a < e = omega arith in
    ap (worse (byte_of size ws a)) (group-by size ws (suc a) n)
    ∙ worse-by (leb size a) (sick ws a) (ltb size e) (hit ws (suc a) e)
    ∙ ap₂ verdict_by (past_more size a e more) (sym (hit-more ws a e more))
    ∙ ap (λ (k : ℕ). verdict_by (ltb size k) (hit ws a k)) (suc-add a (suc n) ∙ sym (add-suc a (suc n)))

-- ---- a group, and two groups together, by their ends

module _ (size : ℕ) (ws : List Window) (a n : ℕ) where
  pub group-ends : 0 < n → group_of size ws a n ≡ verdict_by (ltb size (a + n)) (hit ws a (a + n))
  group-ends h = go n h
    where
      go : (n : ℕ) → 0 < n → group_of size ws a n ≡ verdict_by (ltb size (a + n)) (hit ws a (a + n))
      go zero h = absurd (not-suc-le-zero h)
      go (suc n) h = group-by size ws a n

  -- an empty group
  pub group-none : n ≡ 0 → Okay ≡ group_of size ws a n
  unfolding group_of
  group-none e = sym (ap (group_of size ws a) e)

  pub group-decode : 0 < n → size < a + n → Decode ≡ group_of size ws a n
  group-decode h past = yes _ (lt-ltb _ _ past) refl ∙ sym (group-ends h)

  pub group-slave : 0 < n → a + n ≤ size → hit ws a (a + n) ≡ true → Slave ≡ group_of size ws a n
  group-slave h fits t = no _ (le-ltb _ _ fits) (yes _ t refl) ∙ sym (group-ends h)

  pub group-okay : 0 < n → a + n ≤ size → hit ws a (a + n) ≡ false → Okay ≡ group_of size ws a n
  group-okay h fits t = no _ (le-ltb _ _ fits) (no _ t refl) ∙ sym (group-ends h)

  -- an OKAY says that the group fits
  pub group-okay-fits : group_of size ws a n ≡ Okay → 0 < n → a + n ≤ size
  group-okay-fits e h =
      ltb-false size (a + n) (okay-no-decode (ltb size (a + n)) (hit ws a (a + n)) (sym (group-ends h) ∙ e))

module _ (size : ℕ) (ws : List Window) (a b n : ℕ) where
  pub pair-none : n ≡ 0 → Okay ≡ pair_of size ws a b n
  pair-none e = ap₂ worse (group-none size ws a n e) (group-none size ws b n e)

  pub pair_ends : 0 < n
      → pair_of size ws a b n
      ≡ verdict_by (either (ltb size (a + n)) (ltb size (b + n))) (either (hit ws a (a + n)) (hit ws b (b + n)))
  pair_ends h =
      ap₂ worse (group-ends size ws a n h) (group-ends size ws b n h)
      ∙ worse-by (ltb size (a + n)) (hit ws a (a + n)) (ltb size (b + n)) (hit ws b (b + n))

  pub pair-decode : 0 < n → (size < a + n) ⊎ (size < b + n) → Decode ≡ pair_of size ws a b n
  pair-decode h past = yes _ (one past) refl ∙ sym (pair_ends h)
    where
      one : (size < a + n) ⊎ (size < b + n) → either (ltb size (a + n)) (ltb size (b + n)) ≡ true
      one (inl p) = sym (yes _ (lt-ltb _ _ p) refl)
      one (inr p) = sym (either-right (ltb size (a + n)) (sym (lt-ltb _ _ p)))

  fit : a + n ≤ size → b + n ≤ size → either (ltb size (a + n)) (ltb size (b + n)) ≡ false
  fit f g = sym (no _ (le-ltb _ _ f) (sym (le-ltb _ _ g)))

  pub pair-slave : 0 < n → a + n ≤ size → b + n ≤ size → either (hit ws a (a + n)) (hit ws b (b + n)) ≡ true
      → Slave ≡ pair_of size ws a b n
  pair-slave h f g t = no _ (fit f g) (yes _ t refl) ∙ sym (pair_ends h)

  pub pair-okay : 0 < n → a + n ≤ size → b + n ≤ size → either (hit ws a (a + n)) (hit ws b (b + n)) ≡ false
      → Okay ≡ pair_of size ws a b n
  pair-okay h f g t = no _ (fit f g) (no _ t refl) ∙ sym (pair_ends h)

  -- an OKAY of both says that both fit
  pub pair-okay-fits : pair_of size ws a b n ≡ Okay → 0 < n → (a + n ≤ size) × (b + n ≤ size)
  pair-okay-fits e h =
      let both = worse-okay (group_of size ws a n) (group_of size ws b n) e in
      (group-okay-fits size ws a n both.0 h, group-okay-fits size ws b n both.1 h)
