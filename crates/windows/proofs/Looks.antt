-- Laws of a look at each window, and of the verdict that follows from it.
use mathlib.Core.Path.{◌≡◌, refl, sym, ap, ◌∙◌}
use mathlib.Core.Bool.{Bool, true, false}
use mathlib.Core.Logic.{◌⊎◌, inl, inr}
use mathlib.Core.List.{List, [], ◌∷◌}
use Prim.Native.Nat.{ℕ, ◌+◌, ◌≤◌, ◌<◌, ◌^◌}
use native.Mathlib.Omega.{arith}
use lib.Dec.{eqb, ltb}
use borrow.Author.Tests.{ne_eqb, lt-ltb, le-ltb, ltb-true, ltb-false, eqb-true, eqb-false}
use Rattle.std.specs.Prelude.{◌||◌}
use Rattle.std.specs.List.{list_any}
use Rattle.kit.specs.Choice.{when, either}
use Rattle.kit.proofs.Choice.{yes, no, decide}
use Rattle.memory.specs.declared.window.Window.{Window}
use Rattle.memory.specs.declared.verdict.Verdict.TheVariants.{Okay, Slave}
use Rattle.memory.specs.Interval.{touches_of, hit}
use Rattle.memory.specs.Verdict.{group_of}
use Rattle.memory.proofs.Groups.{group-none, group-decode, group-slave, group-okay}
use Rattle.windows.specs.Lookup.{touched_of, past_of, decide_of}

-- ---- the windows

pub touched_of-any : (ws : List Window) (a e : ℕ) → list_any (λ (w : Window). touches_of w a e) ws ≡ touched_of ws a e
unfolding touched_of
touched_of-any [] a e = refl
touched_of-any (w ∷ ws) a e = go (touches_of w a e) (touched_of-any ws a e)
  where
    go : (t : Bool) {x y : Bool} → x ≡ y → t || x ≡ either t y
    go true e = refl
    go false e = e

-- ---- the verdict

touched_of-hit : (ws : List Window) (a e : ℕ) → touched_of ws a e ≡ hit ws a e
unfolding touched_of
touched_of-hit [] a e = refl
touched_of-hit (w ∷ ws) a e = ap (either (touches_of w a e)) (touched_of-hit ws a e)

module _ (size : ℕ) (ws : List Window) (a n : ℕ) (small : size < 2 ^ 64) where
  abbrev Judged : Type 0
  Judged = decide_of size a n (touched_of ws a (past_of a n)) ≡ group_of size ws a n

  past_is : a + n ≤ size → past_of a n ≡ a + n
  unfolding past_of
  past_is h = sym (yes _ (lt-ltb (a + n) (2 ^ 64) (omega arith)) refl)

  -- the group fits: its windows decide
  fitting : 0 < n → a + n ≤ size → (b : Bool) → hit ws a (a + n) ≡ b → Judged
  unfolding decide_of
  fitting h f b t =
      sym (no _ (ne_eqb n 0 (omega arith)) (no _ (le-ltb size (a + n) f) refl))
      ∙ ap (λ (x : Bool). when x Slave Okay) (touched_of-hit ws a (past_of a n) ∙ ap (hit ws a) (past_is f) ∙ t)
      ∙ go b t
    where
      go : (b : Bool) → hit ws a (a + n) ≡ b → when b Slave Okay ≡ group_of size ws a n
      go true t = group-slave size ws a n h f t
      go false t = group-okay size ws a n h f t

  pub judged : Judged
  unfolding decide_of
  judged = first (decide (eqb n 0))
    where
      second : 0 < n → (ltb size (a + n) ≡ true) ⊎ (ltb size (a + n) ≡ false) → Judged
      second h (inl e) = sym (no _ (ne_eqb n 0 (omega arith)) (yes _ e refl)) ∙ group-decode size ws a n h (ltb-true size (a + n) e)
      second h (inr e) = fitting h (ltb-false size (a + n) e) (hit ws a (a + n)) refl

      first : (eqb n 0 ≡ true) ⊎ (eqb n 0 ≡ false) → Judged
      first (inl e) = sym (yes _ e refl) ∙ group-none size ws a n (eqb-true n 0 e)
      first (inr e) = let some = eqb-false n 0 e in second (omega arith) (decide (ltb size (a + n)))
