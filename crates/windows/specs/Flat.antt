-- Windows as a flat list of numbers.
use Rattle.std.specs.Prelude.{ℕ, List, [], ◌∷◌}
use Rattle.memory.specs.declared.window.Window.{Window}

-- start and length in turn
abbrev pub flat_of : List Window → List ℕ
flat_of [] = []
flat_of (w ∷ more) = w.start ∷ w.length ∷ flat_of more
