-- Little-endian words: the lowest byte stands first.
use Rattle.std.specs.Prelude.{ℕ, ◌+◌, ◌*◌, ◌/◌, ◌%◌, List, [], ◌∷◌, get_or}

-- the number whose bytes are a, b, c, d, the lowest first
abbrev pub joined : ℕ → ℕ → ℕ → ℕ → ℕ
joined a b c d = a + 256 * (b + 256 * (c + 256 * d))

-- the word, and the half word, whose lowest byte stands at `at`
abbrev pub word_at : List ℕ → ℕ → ℕ
word_at m at = joined (get_or m at 0) (get_or m (at + 1) 0) (get_or m (at + 2) 0) (get_or m (at + 3) 0)

abbrev pub half_at : List ℕ → ℕ → ℕ
half_at m at = joined (get_or m at 0) (get_or m (at + 1) 0) 0 0

-- a word's four bytes
abbrev pub bytes_of : ℕ → List ℕ
bytes_of v = v % 256 ∷ v / 256 % 256 ∷ v / 65536 % 256 ∷ v / 16777216 % 256 ∷ []
