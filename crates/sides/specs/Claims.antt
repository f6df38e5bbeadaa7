-- What the definitions of specs/Sides.antt imply: proved in proofs/Claims.antt.
use Rattle.std.specs.Prelude.{◌≡◌, ℕ, ◌+◌, ◌≤◌, ◌<◌, true, false, List, length, get_or}
use Rattle.memory.specs.declared.window.Window.{Window}
use Rattle.memory.specs.declared.verdict.Verdict.TheVariants.{Okay}
use Rattle.memory.specs.Verdict.{group_of}
use Rattle.memory.specs.Burst.{copied}
use Rattle.sides.specs.Sides.{place_of, Inside, side_answer, sides_moved}

pub record Claims : Type 0 where
  -- a side that increments: its bytes are one group, and a burst between two such sides is a copy
  pub incrementing-answer : (size : ℕ) (windows : List Window) (w a k n : ℕ) → side_answer size windows (place_of false w a) k n ≡ group_of size windows (a + k) n
  pub incrementing-moved : (m : List ℕ) (w a b k n : ℕ) → a + k + n ≤ length m
      → sides_moved m (place_of false w a) (place_of false w b) k n ≡ copied m (a + k) (b + k) n
  -- bytes that answer OKAY lie in the memory
  pub okay-inside : (size : ℕ) (windows : List Window) (place : ℕ → ℕ) (k n : ℕ) → side_answer size windows place k n ≡ Okay → Inside size place k n
  -- a destination that increments holds each byte of the burst as it was in memory
  pub each-arrives : (m : List ℕ) (reads : ℕ → ℕ) (w b k n i : ℕ) → i < n → Inside (length m) (place_of false w b) k n
      → get_or (sides_moved m reads (place_of false w b) k n) (place_of false w b (k + i)) 0 ≡ get_or m (reads (k + i)) 0
  -- a fixed one holds the last word of them: the last beat's bytes remain
  pub last-remains : (m : List ℕ) (reads : ℕ → ℕ) (w b k n i : ℕ) → 0 < w → i < n → n ≤ i + w → Inside (length m) (place_of true w b) k n
      → get_or (sides_moved m reads (place_of true w b) k n) (place_of true w b (k + i)) 0 ≡ get_or m (reads (k + i)) 0
  -- no other byte differs
  pub others-stay : (m : List ℕ) (reads writes : ℕ → ℕ) (k n x : ℕ) → ((i : ℕ) → i < n → writes (k + i) ≡ x → ⊥)
      → get_or (sides_moved m reads writes k n) x 0 ≡ get_or m x 0
  pub length-stays : (m : List ℕ) (reads writes : ℕ → ℕ) (k n : ℕ) → length (sides_moved m reads writes k n) ≡ length m
