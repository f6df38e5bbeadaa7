-- RULES.md, "Memory that answers badly": how many bytes from a on answer OKAY, up to the first that does not. That they do:
-- proofs/GoodBytes.antt, `good-okay`.
use Rattle.std.specs.Prelude.{ℕ, ◌-◌, List, [], ◌∷◌}
use Rattle.kit.specs.Choice.{when}
use Rattle.memory.specs.declared.window.Window.{Window}
use Rattle.memory.specs.Interval.{touches_of}

-- the good bytes from a on end by e, and where a window starts that has one of them
abbrev pub nearer_end : Window → ℕ → ℕ → ℕ
nearer_end w a e = when (touches_of w a e) w.start e

unfoldable pub good_end : List Window → ℕ → ℕ → ℕ
good_end [] a e = e
good_end (w ∷ more) a e = good_end more a (nearer_end w a e)

-- in a memory of `size` bytes
abbrev pub good_bytes : ℕ → List Window → ℕ → ℕ
good_bytes size windows a = good_end windows a size - a
