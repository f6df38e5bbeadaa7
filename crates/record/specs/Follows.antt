-- RULES.md, "Trace and listing": a whole record of one kind in sequence, as loops over records of one kind ask for it.
use Rattle.std.specs.Prelude.{ℕ, ◌+◌, Bool, List, eqb, leb, ltb, length}
use Rattle.kit.specs.Choice.{both}
use Rattle.kit.specs.Word.{word_at, half_at}

-- the record at `at` is whole with its size, has the mark, and a sequence number above the one before
abbrev pub follows_of : List ℕ → ℕ → ℕ → ℕ → ℕ → Bool
follows_of s at mark size before = both (leb (at + size) (length s)) (both (eqb (half_at s at) mark) (ltb before (word_at s (at + 2))))
