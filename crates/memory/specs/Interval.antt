-- A window and a group of bytes compared by their ends. The bytes from a up to e have one in the window exactly when this
-- holds, for a < e: proofs/Touch.antt.
use Rattle.std.specs.Prelude.{ℕ, ◌+◌, Bool, false, List, [], ◌∷◌, ltb}
use Rattle.kit.specs.Choice.{both, either}
use Rattle.memory.specs.declared.window.Window.{Window}

-- the window starts before e, ends past a, and is not empty
abbrev pub touches_of : Window → ℕ → ℕ → Bool
touches_of w a e = both (ltb w.start e) (both (ltb a (w.start + w.length)) (ltb 0 w.length))

-- one of the windows touches the bytes from a up to e
abbrev pub hit : List Window → ℕ → ℕ → Bool
hit [] a e = false
hit (w ∷ more) a e = either (touches_of w a e) (hit more a e)
