-- The bursts of a fixed destination, through what is held: of all beats the last remains.
use mathlib.Core.Path.{◌≡◌, sym, ap, ◌∙◌}
use mathlib.Core.Bool.{true, false}
use mathlib.Core.List.{List}
use Prim.Native.Nat.{ℕ, ◌+◌, ◌-◌, ◌%◌, ◌≤◌, ◌<◌, min}
use native.Mathlib.Omega.{arith}
use lib.ListN.{length, get_or, take, drop}
use lib.Seq.{sets}
use Rattle.memory.specs.Burst.{copied}
use Rattle.memory.proofs.Stores.{sets-part}
use Rattle.sides.specs.Sides.{place_of, Inside, side_read, side_written, sides_moved}
use Rattle.sides.proofs.Places.{plain-run, plain-written, length-read, read-run, read_at, written_at, moved-along, moved-last}
use Rattle.memory.proofs.Copies.{part_length}
use Rattle.sides.proofs.Words.{word-again, word-phase}

-- n bytes from byte k on, of which c are kept
module _ (m : List ℕ) (w a b k n c : ℕ) (some : 0 < w) (e : c ≡ min n w) where
  pub pushed : 0 < n → Inside (length m) (place_of false w a) k n → (held one two : List ℕ) → c ≤ length held
      → one ≡ sets held 0 (take c (drop (a + (k + (n - c))) m)) → two ≡ side_written m (place_of true w b) (k + (n - c)) (take c one)
      → two ≡ sides_moved m (place_of false w a) (place_of true w b) k n
  pushed h inside held one two room p q =
      let reads : ℕ → ℕ = place_of false w a in
      let writes : ℕ → ℕ = place_of true w b in
      let last : ℕ = k + (n - c) in
      let values : List ℕ = take c (drop (a + last) m) in
      let fits : a + last + c ≤ length m = omega (arith, inside (n - 1) (omega arith)) in
      let long : length values ≡ c = part_length m (a + last) c fits in
      let kept : take c one ≡ values = ap (take c) p ∙ sets-part held 0 values c (sym long) (omega arith) in
      q
      ∙ ap (side_written m writes last) (kept ∙ sym (read-run m reads last (a + last) c (plain-run w a last c) fits))
      ∙ sym (moved-last m reads writes w some (word-again w b) k n c e)

  pub passed : (held two : List ℕ)
      → take c held ≡ side_read m (place_of true w a) (k % w + (n - c)) c
      → two ≡ side_written m (place_of true w b) (k % w + (n - c)) (take c held)
      → two ≡ sides_moved m (place_of true w a) (place_of true w b) k n
  passed held two p q =
      let reads : ℕ → ℕ = place_of true w a in
      let writes : ℕ → ℕ = place_of true w b in
      q
      ∙ ap (side_written m writes (k % w + (n - c))) p
      ∙ moved-along m reads writes (k % w + (n - c)) (k + (n - c)) c (word-phase w a k (n - c) c) (word-phase w b k (n - c) c)
      ∙ sym (moved-last m reads writes w some (word-again w b) k n c e)

-- a burst between two sides that increment is a copy
pub plain_moved : (m : List ℕ) (w a b k n : ℕ) → a + k + n ≤ length m
    → sides_moved m (place_of false w a) (place_of false w b) k n ≡ copied m (a + k) (b + k) n
plain_moved m w a b k n fits =
    plain-written m w b k (side_read m (place_of false w a) k n)
    ∙ ap (sets m (b + k)) (read-run m (place_of false w a) k (a + k) n (plain-run w a k n) fits)

-- a byte of the destination to which no later byte goes holds what its own byte was in memory
pub moved_at : (m : List ℕ) (reads writes : ℕ → ℕ) (k n i : ℕ) → i < n → writes (k + i) < length m
    → ((j : ℕ) → i < j → j < n → writes (k + j) ≡ writes (k + i) → ⊥)
    → get_or (sides_moved m reads writes k n) (writes (k + i)) 0 ≡ get_or m (reads (k + i)) 0
moved_at m reads writes k n i l fits later =
    let long : length (side_read m reads k n) ≡ n = length-read m reads k n in
    written_at writes m k (side_read m reads k n) i (omega arith) fits (λ j a b. later j a (omega arith))
    ∙ read_at m reads k n i l
