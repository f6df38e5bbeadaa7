-- The windows of a flat slice, as a loop takes them off its front by pairs of numbers.
use mathlib.Core.Path.{◌≡◌, refl, sym, ap, ◌∙◌}
use mathlib.Core.Bool.{Bool, true, false}
use mathlib.Core.List.{List, [], ◌∷◌, ◌++◌}
use Prim.Native.Nat.{ℕ, ◌<◌}
use native.Mathlib.Omega.{arith}
use lib.ListN.{length}
use Rattle.kit.specs.Choice.{either}
use Rattle.memory.specs.declared.window.Window.{Window}
use Rattle.memory.specs.Windows.{windows_of, window_in}
use Rattle.memory.specs.Interval.{touches_of, hit}
use Rattle.memory.proofs.Groups.{swap}

pub no-window : (l : List ℕ) → length l < 2 → windows_of l ≡ []
no-window [] h = refl
no-window (x ∷ []) h = refl
no-window (x ∷ y ∷ l) h = absurd (omega arith)

-- the pair p was taken off the front of l
module _ (l p rest : List ℕ) (taken : l ≡ p ++ rest) (two : length p ≡ 2) where
  pub first-window : windows_of l ≡ window_in p ∷ windows_of rest
  first-window = ap windows_of taken ∙ go p two
    where
      go : (p : List ℕ) → length p ≡ 2 → windows_of (p ++ rest) ≡ window_in p ∷ windows_of rest
      go [] h = absurd (omega arith)
      go (x ∷ []) h = absurd (omega arith)
      go (x ∷ y ∷ []) h = refl
      go (x ∷ y ∷ z ∷ more) h = absurd (omega arith)

  -- two groups are held against its window: what that tells is joined to what is known, and what is left decides
  module _ (a e b g : ℕ) where
    pub pair-on : (met : Bool) {here next : Bool} → here ≡ either (touches_of (window_in p) a e) (touches_of (window_in p) b g) → next ≡ either met here
        → either next (either (hit (windows_of rest) a e) (hit (windows_of rest) b g))
        ≡ either met (either (hit (windows_of l) a e) (hit (windows_of l) b g))
    pair-on met t n =
        ap (λ (x : Bool). either x left) (n ∙ ap (λ (x : Bool). either met x) t)
        ∙ nested met (either (touches_of (window_in p) a e) (touches_of (window_in p) b g)) left
        ∙ ap (λ (x : Bool). either met x)
        (sym (ap (λ (ws : List Window). either (hit ws a e) (hit ws b g)) first-window
        ∙ swap (touches_of (window_in p) a e) (hit (windows_of rest) a e) (touches_of (window_in p) b g) (hit (windows_of rest) b g)))
      where
        left : Bool
        left = either (hit (windows_of rest) a e) (hit (windows_of rest) b g)

        nested : (t u v : Bool) → either (either t u) v ≡ either t (either u v)
        nested true u v = refl
        nested false u v = refl
