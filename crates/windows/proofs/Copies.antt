-- Laws of the windows that a table takes, and of their numbers.
use mathlib.Core.Path.{◌≡◌, refl, sym, ap, ◌∙◌}
use mathlib.Core.List.{List, [], ◌∷◌, ◌++◌}
use Prim.Native.Nat.{ℕ, ◌+◌, ◌*◌, ◌<◌}
use native.Mathlib.Omega.{arith}
use native.Mathlib.Numerals.{add-one}
use lib.ListN.{length, take, get_or}
use lib.Seq.{take-suc}
use Rattle.memory.specs.declared.window.Window.{Window}
use Rattle.windows.specs.Flat.{flat_of}

-- ---- their numbers

flat_append : (ws : List Window) (w : Window) → flat_of (ws ++ (w ∷ [])) ≡ flat_of ws ++ (w.start ∷ w.length ∷ [])
flat_append [] w = refl
flat_append (x ∷ ws) w = ap (λ (l : List ℕ). x.start ∷ x.length ∷ l) (flat_append ws w)

pub flat-length : (ws : List Window) → length (flat_of ws) ≡ 2 * length ws
flat-length [] = refl
flat-length (w ∷ ws) = let h = flat-length ws in omega arith

-- one window more
pub flat-next : (ws : List Window) (i : ℕ) (d : Window) → i < length ws
    → flat_of (take i ws) ++ ((get_or ws i d).start ∷ (get_or ws i d).length ∷ []) ≡ flat_of (take (i + 1) ws)
flat-next ws i d h =
    sym (flat_append (take i ws) (get_or ws i d)) ∙ ap flat_of (sym (take-suc ws i d h)) ∙ ap (λ (n : ℕ). flat_of (take n ws)) (sym (add-one i))
