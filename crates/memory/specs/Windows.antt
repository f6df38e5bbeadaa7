-- RULES.md, "Memory that answers badly": sick windows. Addresses never wrap.
use Rattle.std.specs.Prelude.{ℕ, ◌+◌, Bool, false, List, [], ◌∷◌, leb, ltb, slice_index}
use Rattle.kit.specs.Choice.{both, either}
use Rattle.memory.specs.declared.window.Window.{Window}

-- the window that the first two numbers of a flat slice hold
abbrev pub window_in : List ℕ → Window
window_in p = record { start = slice_index p 0; length = slice_index p 1 }

-- the windows that a flat slice holds, start and length in turn; an odd last number is of no use
abbrev pub windows_of : List ℕ → List Window
windows_of [] = []
windows_of (s ∷ []) = []
windows_of (s ∷ n ∷ more) = record { start = s; length = n } ∷ windows_of more

-- the byte at a lies in the window
abbrev pub inside : Window → ℕ → Bool
inside w a = both (leb w.start a) (ltb a (w.start + w.length))

-- the byte at a lies in one of the windows
unfoldable pub sick : List Window → ℕ → Bool
sick [] a = false
sick (w ∷ more) a = either (inside w a) (sick more a)
