-- Laws of `holder_of`: the window that it numbers, and the windows of a flat slice as a loop goes over them by two.
use mathlib.Core.Path.{◌≡◌, refl, sym, ap, ◌∙◌}
use mathlib.Core.Bool.{true, false}
use mathlib.Core.List.{List, [], ◌∷◌, ◌++◌}
use Prim.Native.Nat.{ℕ, suc, ◌<◌}
use lib.ListN.{length}
use Rattle.kit.proofs.Choice.{yes, no, cases, never}
use Rattle.memory.specs.declared.window.Window.{Window}
use Rattle.memory.specs.Windows.{windows_of, window_in, inside, sick}
use Rattle.memory.proofs.Pairs.{first-window, no-window}
use Rattle.places.specs.Places.{holder_of}
use Rattle.places.specs.Claims.{Holder, here, later}

-- a sick byte has a window, and this is the first
pub holder : (ws : List Window) (a : ℕ) → sick ws a ≡ true → Holder ws a (holder_of ws a)
unfolding sick holder_of
holder [] a e = absurd (never e)
holder (w ∷ ws) a e =
    cases (Holder (w ∷ ws) a) (inside w a) here (λ out. later out (holder ws a (no true out refl ∙ e)))

-- ---- a flat slice, as a loop takes its windows off its front

pub holder-end : (l : List ℕ) (a : ℕ) → length l < 2 → holder_of (windows_of l) a ≡ 0
unfolding holder_of
holder-end l a h = ap (λ (ws : List Window). holder_of ws a) (no-window l h)

module _ (l p rest : List ℕ) (taken : l ≡ p ++ rest) (two : length p ≡ 2) (a : ℕ) where
  pub holder-here : inside (window_in p) a ≡ true → 0 ≡ holder_of (windows_of l) a
  unfolding holder_of
  holder-here t = yes _ t refl ∙ sym (ap (λ (ws : List Window). holder_of ws a) (first-window l p rest taken two))

  pub holder-on : inside (window_in p) a ≡ false → suc (holder_of (windows_of rest) a) ≡ holder_of (windows_of l) a
  unfolding holder_of
  holder-on t = no _ t refl ∙ sym (ap (λ (ws : List Window). holder_of ws a) (first-window l p rest taken two))
