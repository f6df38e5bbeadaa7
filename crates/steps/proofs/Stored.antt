-- Lists of bytes: parts of them, and stores of bytes into them, are lists of bytes.
use mathlib.Core.Path.{sym, subst}
use Prim.Native.Nat.{ℕ, zero, suc, ◌+◌, ◌<◌}
use mathlib.Core.List.{List, [], ◌∷◌}
use native.Mathlib.Omega.{arith}
use lib.ListN.{set, take, drop}
use lib.Seq.{sets, get_or-drop}
use Rattle.kit.specs.Limits.{address_end}
use Rattle.kit.specs.Word.{word_at, bytes_of}
use Rattle.sides.specs.Sides.{side_read, side_written, sides_moved}
use Rattle.steps.specs.Claims.{Bytes}

pub word_fits : (m : List ℕ) → Bytes m → (at : ℕ) → word_at m at < address_end
word_fits m bytes at = omega (arith, bytes at, bytes (at + 1), bytes (at + 2), bytes (at + 3))

pub take-bytes : (n : ℕ) (l : List ℕ) → Bytes l → Bytes (take n l)
take-bytes zero l h i = omega arith
take-bytes (suc n) [] h i = omega arith
take-bytes (suc n) (x ∷ l) h zero = h 0
take-bytes (suc n) (x ∷ l) h (suc i) = take-bytes n l (λ k. h (suc k)) i

pub drop-bytes : (n : ℕ) (l : List ℕ) → Bytes l → Bytes (drop n l)
drop-bytes n l h i = subst (λ (v : ℕ). v < 256) (sym (get_or-drop n l i 0)) (h (n + i))

set-bytes : (l : List ℕ) (i v : ℕ) → Bytes l → v < 256 → Bytes (set l i v)
set-bytes [] i v h b k = omega arith
set-bytes (x ∷ l) zero v h b zero = b
set-bytes (x ∷ l) zero v h b (suc k) = h (suc k)
set-bytes (x ∷ l) (suc i) v h b zero = h 0
set-bytes (x ∷ l) (suc i) v h b (suc k) = set-bytes l i v (λ j. h (suc j)) b k

pub sets-bytes : (m : List ℕ) (i : ℕ) (vs : List ℕ) → Bytes m → Bytes vs → Bytes (sets m i vs)
sets-bytes m i [] h g = h
sets-bytes m i (v ∷ vs) h g = sets-bytes (set m i v) (suc i) vs (set-bytes m i v h (g 0)) (λ k. g (suc k))

read-bytes : (m : List ℕ) (place : ℕ → ℕ) (k n : ℕ) → Bytes m → Bytes (side_read m place k n)
unfolding side_read
read-bytes m place k zero h i = omega arith
read-bytes m place k (suc n) h zero = h (place k)
read-bytes m place k (suc n) h (suc i) = read-bytes m place (suc k) n h i

written-bytes : (m : List ℕ) (place : ℕ → ℕ) (k : ℕ) (vs : List ℕ) → Bytes m → Bytes vs → Bytes (side_written m place k vs)
unfolding side_written
written-bytes m place k [] h g = h
written-bytes m place k (v ∷ vs) h g = written-bytes (set m (place k) v) place (suc k) vs (set-bytes m (place k) v h (g 0)) (λ i. g (suc i))

pub moved-bytes : (m : List ℕ) (reads writes : ℕ → ℕ) (k n : ℕ) → Bytes m → Bytes (sides_moved m reads writes k n)
moved-bytes m reads writes k n h = written-bytes m writes k (side_read m reads k n) h (read-bytes m reads k n h)

pub word_bytes : (v : ℕ) → Bytes (bytes_of v)
word_bytes v zero = omega arith
word_bytes v (suc zero) = omega arith
word_bytes v (suc (suc zero)) = omega arith
word_bytes v (suc (suc (suc zero))) = omega arith
word_bytes v (suc (suc (suc (suc i)))) = omega arith
