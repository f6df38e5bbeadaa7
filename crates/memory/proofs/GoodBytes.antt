-- Laws of `good_bytes`: every part of the good bytes answers OKAY, and the byte after them does not.
use mathlib.Core.Path.{◌≡◌, refl, sym, ap, ◌∙◌}
use mathlib.Core.Bool.{Bool, true, false}
use mathlib.Core.List.{List, [], ◌∷◌, ◌++◌}
use mathlib.Core.Logic.{◌⊎◌, inl, inr}
use Prim.Native.Nat.{ℕ, ◌+◌, ◌-◌, ◌≤◌, ◌<◌}
use native.Mathlib.Omega.{arith}
use lib.ListN.{length}
use lib.Dec.{ltb}
use borrow.Author.Tests.{lt-ltb, le-leb, ltb-true, ltb-false}
use Rattle.kit.specs.Choice.{either}
use Rattle.kit.proofs.Choice.{yes, no, decide, never, both-join, either-right}
use Rattle.memory.specs.declared.window.Window.{Window}
use Rattle.memory.specs.declared.verdict.Verdict.TheVariants.{Okay}
use Rattle.memory.specs.Windows.{windows_of, window_in, inside, sick}
use Rattle.memory.specs.Interval.{touches_of, hit}
use Rattle.memory.specs.Verdict.{group_of}
use Rattle.memory.specs.Good.{nearer_end, good_end, good_bytes}
use Rattle.memory.proofs.Touch.{Touch, touch, touch-test}
use Rattle.memory.proofs.Groups.{group-okay}
use Rattle.memory.proofs.Pairs.{first-window, no-window}

-- ---- one window

module _ (w : Window) (a e : ℕ) where
  nearer-by : (t : Bool) → touches_of w a e ≡ t → nearer_end w a e ≤ e
  nearer-by true h =
      let k = touch w a e h in
      let s : nearer_end w a e ≡ w.start = sym (yes e h refl) in
      omega (arith, k.starts, s)
  nearer-by false h = let s : nearer_end w a e ≡ e = sym (no w.start h refl) in omega (arith, s)

  nearer-less : nearer_end w a e ≤ e
  nearer-less = nearer-by (touches_of w a e) refl

  -- a part that ends by there has no byte in the window
  missed : (b f : ℕ) → a ≤ b → f ≤ nearer_end w a e → touches_of w b f ≡ true → ⊥
  missed b f from to t = go (touches_of w a e) refl
    where
      k : Touch w b f
      k = touch w b f t

      go : (u : Bool) → touches_of w a e ≡ u → ⊥
      go true h = let s : nearer_end w a e ≡ w.start = sym (yes e h refl) in omega (arith, k.starts, s, to)
      go false h =
          let s : nearer_end w a e ≡ e = sym (no w.start h refl) in
          never (sym h ∙ touch-test w a e (record { starts = omega (arith, k.starts, s, to); ends = omega (arith, k.ends, from); holds = k.holds }))

-- ---- all windows

end-less : (ws : List Window) (a e : ℕ) → good_end ws a e ≤ e
unfolding good_end
end-less [] a e = omega arith
end-less (w ∷ ws) a e = let h = nearer-less w a e in let k = end-less ws a (nearer_end w a e) in omega (arith, h, k)

unhit : (ws : List Window) (a e b f : ℕ) → a ≤ b → f ≤ good_end ws a e → hit ws b f ≡ false
unfolding good_end
unhit [] a e b f from to = refl
unhit (w ∷ ws) a e b f from to = go (unhit ws a (nearer_end w a e) b f from to) (touches_of w b f) refl
  where
    near : f ≤ nearer_end w a e
    near = let k = end-less ws a (nearer_end w a e) in omega (arith, k, to)

    go : hit ws b f ≡ false → (t : Bool) → touches_of w b f ≡ t → hit (w ∷ ws) b f ≡ false
    go more true h = absurd (missed w a e b f from near h)
    go more false h = sym (no true h (sym more))

-- an end that was brought nearer stands where a window has the first byte that is not good
end-sick : (ws : List Window) (a e : ℕ) → good_end ws a e < e → sick ws (a + (good_end ws a e - a)) ≡ true
unfolding good_end sick
end-sick [] a e h = absurd (omega arith)
end-sick (w ∷ ws) a e h = go (end-sick ws a (nearer_end w a e)) (decide (ltb (good_end ws a (nearer_end w a e)) (nearer_end w a e)))
  where
    g : ℕ
    g = good_end ws a (nearer_end w a e)

    -- this window brought it there
    here : nearer_end w a e ≤ g → (t : Bool) → touches_of w a e ≡ t → inside w (a + (g - a)) ≡ true
    here l true t =
        let k = touch w a e t in
        let s : nearer_end w a e ≡ w.start = sym (yes e t refl) in
        let m = end-less ws a (nearer_end w a e) in
        both-join (le-leb w.start (a + (g - a)) (omega (arith, k.starts, k.ends, k.holds, s, m, l)))
        (lt-ltb (a + (g - a)) (w.start + w.length) (omega (arith, k.starts, k.ends, k.holds, s, m, l)))
    here l false t = let s : nearer_end w a e ≡ e = sym (no w.start t refl) in absurd (omega (arith, s, l, h))

    -- it, or a later one
    go : (g < nearer_end w a e → sick ws (a + (g - a)) ≡ true) → (ltb g (nearer_end w a e) ≡ true) ⊎ (ltb g (nearer_end w a e) ≡ false)
        → either (inside w (a + (g - a))) (sick ws (a + (g - a))) ≡ true
    go more (inl t) = sym (either-right (inside w (a + (g - a))) (sym (more (ltb-true g (nearer_end w a e) t))))
    go more (inr t) = sym (yes (sick ws (a + (g - a))) (here (ltb-false g (nearer_end w a e) t) (touches_of w a e) refl) refl)

module _ (size : ℕ) (ws : List Window) (a : ℕ) where
  -- the first byte that is not good lies in a window, or past the memory's end
  pub good-stops : a + good_bytes size ws a < size → sick ws (a + good_bytes size ws a) ≡ true
  good-stops h = end-sick ws a size (omega arith)

  pub good-less : good_bytes size ws a ≤ size
  good-less = let k = end-less ws a size in omega (arith, k)

  -- every part of the good bytes is good
  pub good-okay : (b n : ℕ) → a ≤ b → b + n ≤ a + good_bytes size ws a → 0 < n → Okay ≡ group_of size ws b n
  good-okay b n from to some =
      let inside : b + n ≤ good_end ws a size = omega (arith, from, to, some) in
      let k = end-less ws a size in
      group-okay size ws b n some (omega (arith, inside, k)) (unhit ws a size b (b + n) from inside)

-- ---- the windows of a flat slice, as a loop takes them off its front

pub good-end : (l : List ℕ) (a e : ℕ) → length l < 2 → good_end (windows_of l) a e ≡ e
unfolding good_end
good-end l a e h = ap (λ (ws : List Window). good_end ws a e) (no-window l h)

pub good-on : (l p rest : List ℕ) → l ≡ p ++ rest → length p ≡ 2 → (a e : ℕ)
    → good_end (windows_of rest) a (nearer_end (window_in p) a e) ≡ good_end (windows_of l) a e
unfolding good_end
good-on l p rest taken two a e = sym (ap (λ (ws : List Window). good_end ws a e) (first-window l p rest taken two))
