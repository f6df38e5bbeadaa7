-- RULES.md, "Descriptor and steps", move and key hole: where the bytes of a transfer lie on one of its sides, what they
-- answer, and the memory after a burst of them.
use Rattle.std.specs.Prelude.{◌⊎◌, ℕ, zero, suc, ◌+◌, ◌%◌, ◌≤◌, ◌<◌, Bool, List, [], ◌∷◌, get_or, set}
use Rattle.kit.specs.Choice.{when}
use Rattle.memory.specs.declared.window.Window.{Window}
use Rattle.memory.specs.declared.verdict.Verdict.{Verdict}
use Rattle.memory.specs.declared.verdict.Verdict.TheVariants.{Okay, Slave, Decode}
use Rattle.memory.specs.Verdict.{byte_of, worse}

-- byte k of a transfer, on a side that starts at a: fixed, it lies in the word of w bytes at a
abbrev pub place_of : Bool → ℕ → ℕ → ℕ → ℕ
place_of fixed w a k = a + when fixed (k % w) k

-- the bytes from its start on that such a side of a transfer of n bytes uses
abbrev pub side_bytes : Bool → ℕ → ℕ → ℕ
side_bytes fixed w n = when fixed w n

-- two ranges of bytes, n from a on and k from b on, do not overlap
abbrev pub Apart : ℕ → ℕ → ℕ → ℕ → Type 0
Apart a n b k = (a + n ≤ b) ⊎ (b + k ≤ a)

-- the n bytes from byte k on lie in a memory of `size` bytes
abbrev pub Inside : ℕ → (ℕ → ℕ) → ℕ → ℕ → Type 0
Inside size place k n = (i : ℕ) → i < n → place (k + i) < size

-- what they answer: the worst
unfoldable pub side_answer : ℕ → List Window → (ℕ → ℕ) → ℕ → ℕ → Verdict
side_answer size windows place k zero = Okay
side_answer size windows place k (suc n) = worse (byte_of size windows (place k)) (side_answer size windows place (suc k) n)

-- and those of both sides together
abbrev pub sides_answer : ℕ → List Window → (ℕ → ℕ) → (ℕ → ℕ) → ℕ → ℕ → Verdict
sides_answer size windows reads writes k n = worse (side_answer size windows reads k n) (side_answer size windows writes k n)

-- what they are in memory m
unfoldable pub side_read : List ℕ → (ℕ → ℕ) → ℕ → ℕ → List ℕ
side_read m place k zero = []
side_read m place k (suc n) = get_or m (place k) 0 ∷ side_read m place (suc k) n

-- m with these values from byte k on, written one after the other: of two at one place the later one stays
unfoldable pub side_written : List ℕ → (ℕ → ℕ) → ℕ → List ℕ → List ℕ
side_written m place k [] = m
side_written m place k (v ∷ more) = side_written (set m (place k) v) place (suc k) more

-- m after a burst of n bytes from byte k on: all are read before any is written
abbrev pub sides_moved : List ℕ → (ℕ → ℕ) → (ℕ → ℕ) → ℕ → ℕ → List ℕ
sides_moved m reads writes k n = side_written m writes k (side_read m reads k n)

-- and by what they answered: unless that is OKAY nothing is written
abbrev pub carried_by : Verdict → List ℕ → (ℕ → ℕ) → (ℕ → ℕ) → ℕ → ℕ → List ℕ
carried_by Okay m reads writes k n = sides_moved m reads writes k n
carried_by Slave m reads writes k n = m
carried_by Decode m reads writes k n = m
