-- The word of a fixed side: its places come again, and no more than a word of bytes lie in two runs.
use mathlib.Core.Path.{◌≡◌, sym, ap, ap₂, ◌∙◌}
use mathlib.Core.Bool.{true}
use mathlib.Core.Logic.{⊎_elim}
use mathlib.Core.List.{List, ◌++◌}
use Prim.Native.Nat.{ℕ, ◌+◌, ◌-◌, ◌%◌, ◌≤◌, ◌<◌, min}
use native.Mathlib.Omega.{arith}
use native.Mathlib.Nat.{add_assoc, mod-lt, mod-add-mod, mod-eq_of_lt, mod-eq-sub-mod, add-mod_right, eq-zero-or-pos}
use lib.Dec.{ltb}
use borrow.Author.Tests.{ltb-true, ltb-false}
use Rattle.kit.proofs.Choice.{decide}
use lib.ListN.{length, take, drop, length-drop, length-append}
use lib.Seq.{sets, take-add, length-take-le}
use Rattle.kit.proofs.Stores.{sets-append}
use Rattle.memory.proofs.Stores.{sets-part}
use Rattle.memory.specs.declared.window.Window.{Window}
use Rattle.memory.specs.Verdict.{worse, group_of}
use Rattle.sides.specs.Sides.{place_of, Inside, side_answer, side_read, side_written}
use Rattle.sides.proofs.Places.{Along, Run, Period, inside-later, read-append, read-run, written-append, written-run}
use Rattle.sides.proofs.Answers.{answer-append, answer-run}

pub word-again : (w a : ℕ) → Period (place_of true w a) w
word-again w a k = ap (λ (x : ℕ). a + x) (add-mod_right k w)

-- only where in the word a byte lies counts
pub word-phase : (w a k d n : ℕ) → Along (place_of true w a) (k % w + d) (place_of true w a) (k + d) n
word-phase w a k d n i l =
    ap (λ (x : ℕ). a + x)
    (ap (λ (x : ℕ). x % w) (add_assoc (k % w) d i) ∙ mod-add-mod k w (d + i) ∙ ap (λ (x : ℕ). x % w) (sym (add_assoc k d i)))

pub phase-inside : (size w a k n d c : ℕ) → d + c ≤ n → Inside size (place_of true w a) k n → Inside size (place_of true w a) (k % w + d) c
phase-inside size w a k n d c h inside i l =
    omega (arith, word-phase w a k d c i l, inside-later size (place_of true w a) k n d c h inside i l)

-- two bytes less than a word apart lie at two places
pub word-apart : (w a x d : ℕ) → 0 < d → d < w → place_of true w a (x + d) ≡ place_of true w a x → ⊥
word-apart w a x d h l e =
    let few : x % w < w = mod-lt x (omega arith) in
    let same : (x % w + d) % w ≡ x % w = omega (arith, mod-add-mod x w d) in
    let below : x % w + d - w < w = omega arith in
    ⊎_elim
    (λ t. omega (arith, mod-eq_of_lt (ltb-true (x % w + d) w t)))
    (λ t. omega (arith, ltb-false (x % w + d) w t, mod-eq-sub-mod (ltb-false (x % w + d) w t), mod-eq_of_lt below))
    (decide (ltb (x % w + d) w))

-- c bytes from byte k on, f of them up to the word's end
module _ (w a k c f : ℕ) (some : 0 < w) (short : c ≤ w) (e : f ≡ min c (w - k % w)) where
  pub upper : Run (place_of true w a) k (a + k % w) f
  upper i l =
      ap (λ (x : ℕ). a + x) (sym (mod-add-mod k w i) ∙ mod-eq_of_lt (omega (arith, mod-lt k some))) ∙ omega arith

  pub lower : Run (place_of true w a) (k + f) a (c - f)
  lower i l =
      let turn : k % w + (f + i) ≡ i + w = omega (arith, mod-lt k some) in
      ap (λ (x : ℕ). a + x)
      (ap (λ (x : ℕ). x % w) (omega arith) ∙ sym (mod-add-mod k w (f + i)) ∙ ap (λ (x : ℕ). x % w) turn ∙ add-mod_right i w
      ∙ mod-eq_of_lt (omega arith))

  parts : c ≡ f + (c - f)
  parts = omega arith

  pub word_fits : (size : ℕ) → 0 < c → Inside size (place_of true w a) k c → (a + k % w + f ≤ size) × (a + (c - f) ≤ size)
  word_fits size h inside =
      let few : k % w < w = mod-lt k some in
      let first : a + k % w + f ≤ size = omega (arith, inside (f - 1) (omega arith), upper (f - 1) (omega arith)) in
      (first, ⊎_elim (λ z. omega arith) (λ p. rest p) (eq-zero-or-pos (c - f)))
    where
      rest : 0 < c - f → a + (c - f) ≤ size
      rest p =
          let same : k + f + (c - f - 1) ≡ k + (c - 1) = omega arith in
          omega (arith, inside (c - 1) (omega arith), ap (place_of true w a) same, lower (c - f - 1) (omega arith))

  pub word-answer : (size : ℕ) (ws : List Window)
      → side_answer size ws (place_of true w a) k c ≡ worse (group_of size ws (a + k % w) f) (group_of size ws a (c - f))
  word-answer size ws =
      let place : ℕ → ℕ = place_of true w a in
      ap (side_answer size ws place k) parts
      ∙ answer-append size ws place k f (c - f)
      ∙ ap₂ worse (answer-run size ws place k (a + k % w) f upper) (answer-run size ws place (k + f) a (c - f) lower)

  module _ (m : List ℕ) where
    pub word_read : a + k % w + f ≤ length m → a + (c - f) ≤ length m
        → side_read m (place_of true w a) k c ≡ take f (drop (a + k % w) m) ++ take (c - f) (drop a m)
    word_read g h =
        let place : ℕ → ℕ = place_of true w a in
        ap (side_read m place k) parts
        ∙ read-append m place k f (c - f)
        ∙ ap₂ (λ (s t : List ℕ). s ++ t) (read-run m place k (a + k % w) f upper g) (read-run m place (k + f) a (c - f) lower h)

    -- the two runs, one after the other at the front of what is held
    pub word_held : a + k % w + f ≤ length m → a + (c - f) ≤ length m → (held one two : List ℕ) → c ≤ length held
        → one ≡ sets held 0 (take f (drop (a + k % w) m)) → two ≡ sets one f (take (c - f) (drop a m))
        → take c two ≡ side_read m (place_of true w a) k c
    word_held g h held one two room p q =
        let xs : List ℕ = take f (drop (a + k % w) m) in
        let ys : List ℕ = take (c - f) (drop a m) in
        let long : length xs ≡ f = length-take-le f (drop (a + k % w) m) (simp length-drop (omega arith)) in
        let rest : length ys ≡ c - f = length-take-le (c - f) (drop a m) (simp length-drop (omega arith)) in
        let both : c ≡ length (xs ++ ys) = omega (arith, length-append xs ys) in
        let from : f ≡ 0 + length xs = omega arith in
        ap (take c) (q ∙ ap (λ (l : List ℕ). sets l f ys) p)
        ∙ ap (λ (x : ℕ). take c (sets (sets held 0 xs) x ys)) from
        ∙ ap (take c) (sym (sets-append held 0 xs ys))
        ∙ sets-part held 0 (xs ++ ys) c both (omega arith)
        ∙ sym (word_read g h)

    written : (vs : List ℕ) → c ≤ length vs
        → side_written m (place_of true w a) k (take c vs) ≡ sets (sets m (a + k % w) (take f vs)) a (take (c - f) (drop f vs))
    written vs h =
        let place : ℕ → ℕ = place_of true w a in
        let long : length (take f vs) ≡ f = length-take-le f vs (omega arith) in
        let rest : length (take (c - f) (drop f vs)) ≡ c - f = length-take-le (c - f) (drop f vs) (simp length-drop (omega arith)) in
        ap (λ (n : ℕ). side_written m place k (take n vs)) parts
        ∙ ap (side_written m place k) (take-add f (c - f) vs)
        ∙ written-append place m k (take f vs) (take (c - f) (drop f vs))
        ∙ ap₂ (λ (s : List ℕ) (x : ℕ). side_written s place x (take (c - f) (drop f vs)))
        (written-run m place k (a + k % w) (take f vs) (λ i l. upper i (omega arith))) (ap (λ (x : ℕ). k + x) long)
        ∙ written-run _ place (k + f) a (take (c - f) (drop f vs)) (λ i l. lower i (omega arith))

    pub word-put : (vs one two : List ℕ) → c ≤ length vs
        → one ≡ sets m (a + k % w) (take f vs) → two ≡ sets one a (take (c - f) (drop f vs))
        → two ≡ side_written m (place_of true w a) k (take c vs)
    word-put vs one two h p q = q ∙ ap (λ (l : List ℕ). sets l a (take (c - f) (drop f vs))) p ∙ sym (written vs h)
