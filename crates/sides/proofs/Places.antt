-- Laws of the bytes on one side, wherever they lie: the same places, one run, two parts, places that come again.
use mathlib.Core.Path.{◌≡◌, refl, sym, ap, ap₂, ◌∙◌, subst}
use mathlib.Core.Bool.{Bool, false}
use mathlib.Core.Logic.{⊎_elim}
use mathlib.Core.List.{List, [], ◌∷◌, ◌++◌}
use Prim.Native.Nat.{ℕ, zero, suc, ◌+◌, ◌-◌, ◌≤◌, ◌<◌, min}
use native.Mathlib.Omega.{arith, min_cases}
use native.Mathlib.Nat.{not-suc-le-zero, add-zero, add-suc, suc-add, zero-add, add_assoc, add_right_comm}
use lib.Dec.{eqb}
use lib.ListN.{length, get_or, set, take, drop, length-set}
use lib.Seq.{sets, set-set, set_comm, drop-cons, take_at, get_or-set_same, get_or-set_other}
use borrow.Author.Tests.{eqb-true, eqb-false}
use Rattle.kit.proofs.Choice.{decide}
use Rattle.sides.specs.Sides.{place_of, Inside, side_read, side_written, sides_moved}

-- from k on one side's places are those of another from j on
abbrev pub Along : (ℕ → ℕ) → ℕ → (ℕ → ℕ) → ℕ → ℕ → Type 0
Along place k other j n = (i : ℕ) → i < n → place (k + i) ≡ other (j + i)

-- they are a run: the places from a on
abbrev pub Run : (ℕ → ℕ) → ℕ → ℕ → ℕ → Type 0
Run place k a n = Along place k (λ x. x) a n

-- they come again after d bytes
abbrev pub Period : (ℕ → ℕ) → ℕ → Type 0
Period place d = (k : ℕ) → place (k + d) ≡ place k

pub over : (k i : ℕ) → suc k + i ≡ k + suc i
over k i = suc-add k i ∙ sym (add-suc k i)

module _ (place : ℕ → ℕ) (k : ℕ) (other : ℕ → ℕ) (j n : ℕ) (h : Along place k other j (suc n)) where
  pub along-head : place k ≡ other j
  along-head = ap place (sym (add-zero k)) ∙ h 0 (omega arith) ∙ ap other (add-zero j)

  pub along-tail : Along place (suc k) other (suc j) n
  along-tail i l = ap place (over k i) ∙ h (suc i) (omega arith) ∙ ap other (sym (over j i))

module _ (place : ℕ → ℕ) (d : ℕ) (again : Period place d) where
  pub period-twice : Period place (d + d)
  period-twice k = ap place (sym (add_assoc k d d)) ∙ again (k + d) ∙ again k

  pub period-along : (k n : ℕ) → Along place (k + d) place k n
  period-along k n i l = ap place (add_right_comm k d i) ∙ again (k + i)

pub inside-later : (size : ℕ) (place : ℕ → ℕ) (k n d c : ℕ) → d + c ≤ n → Inside size place k n → Inside size place (k + d) c
inside-later size place k n d c h inside i l = subst (λ (x : ℕ). place x < size) (sym (add_assoc k d i)) (inside (d + i) (omega arith))

-- a side that increments is a run
pub plain-run : (w a k n : ℕ) → Run (place_of false w a) k (a + k) n
plain-run w a k n i l = sym (add_assoc a k i)

pub plain_fits : (size w a k n : ℕ) (fixed : Bool) → fixed ≡ false → 0 < n → Inside size (place_of fixed w a) k n → a + k + n ≤ size
plain_fits size w a k n fixed e h inside =
    omega (arith, subst (λ (t : Bool). Inside size (place_of t w a) k n) e inside (n - 1) (omega arith))

-- ---- what is read

module _ (m : List ℕ) where
  pub read-along : (place : ℕ → ℕ) (k : ℕ) (other : ℕ → ℕ) (j n : ℕ) → Along place k other j n → side_read m place k n ≡ side_read m other j n
  unfolding side_read
  read-along place k other j zero h = refl
  read-along place k other j (suc n) h =
      ap₂ (λ (x : ℕ) (l : List ℕ). get_or m x 0 ∷ l) (along-head place k other j n h) (read-along place (suc k) other (suc j) n (along-tail place k other j n h))

  read-straight : (a n : ℕ) → a + n ≤ length m → side_read m (λ x. x) a n ≡ take n (drop a m)
  unfolding side_read
  read-straight a zero h = refl
  read-straight a (suc n) h =
      ap (λ (l : List ℕ). get_or m a 0 ∷ l) (read-straight (suc a) n (omega arith))
      ∙ ap (take (suc n)) (sym (drop-cons m a 0 (omega arith)))

  pub read-run : (place : ℕ → ℕ) (k a n : ℕ) → Run place k a n → a + n ≤ length m → side_read m place k n ≡ take n (drop a m)
  read-run place k a n h fits = read-along place k (λ x. x) a n h ∙ read-straight a n fits

  module _ (place : ℕ → ℕ) where
    pub length-read : (k n : ℕ) → length (side_read m place k n) ≡ n
    unfolding side_read
    length-read k zero = refl
    length-read k (suc n) = ap suc (length-read (suc k) n)

    pub read-append : (k a b : ℕ) → side_read m place k (a + b) ≡ side_read m place k a ++ side_read m place (k + a) b
    unfolding side_read
    read-append k zero b = ap₂ (side_read m place) (sym (add-zero k)) (zero-add b)
    read-append k (suc a) b =
        ap (side_read m place k) (suc-add a b)
        ∙ ap (λ (l : List ℕ). get_or m (place k) 0 ∷ l) (read-append (suc k) a b)
        ∙ ap (λ (x : ℕ). side_read m place k (suc a) ++ side_read m place x b) (over k a)

    -- where the places come again after d bytes, the first n of them are read again
    pub read_again : (d : ℕ) → Period place d → (k n : ℕ) → n ≤ d → take n (side_read m place k d) ≡ side_read m place (k + d) n
    read_again d again k n h =
        let parts : d ≡ n + (d - n) = omega arith in
        ap (λ (x : ℕ). take n (side_read m place k x)) parts
        ∙ ap (take n) (read-append k n (d - n))
        ∙ take_at (side_read m place k n) (side_read m place (k + n) (d - n)) n (length-read k n)
        ∙ sym (read-along place (k + d) place k n (period-along place d again k n))

    pub read_at : (k n i : ℕ) → i < n → get_or (side_read m place k n) i 0 ≡ get_or m (place (k + i)) 0
    unfolding side_read
    read_at k zero i h = absurd (not-suc-le-zero h)
    read_at k (suc n) zero h = ap (λ (x : ℕ). get_or m (place x) 0) (sym (add-zero k))
    read_at k (suc n) (suc i) h = read_at (suc k) n i (omega arith) ∙ ap (λ (x : ℕ). get_or m (place x) 0) (over k i)

-- ---- what is written

pub written-along : (m : List ℕ) (place : ℕ → ℕ) (k : ℕ) (other : ℕ → ℕ) (j : ℕ) (vs : List ℕ) → Along place k other j (length vs)
    → side_written m place k vs ≡ side_written m other j vs
unfolding side_written
written-along m place k other j [] h = refl
written-along m place k other j (v ∷ vs) h =
    ap (λ (x : ℕ). side_written (set m x v) place (suc k) vs) (along-head place k other j (length vs) h)
    ∙ written-along (set m (other j) v) place (suc k) other (suc j) vs (along-tail place k other j (length vs) h)

written-straight : (m : List ℕ) (a : ℕ) (vs : List ℕ) → side_written m (λ x. x) a vs ≡ sets m a vs
unfolding side_written
written-straight m a [] = refl
written-straight m a (v ∷ vs) = written-straight (set m a v) (suc a) vs

pub written-run : (m : List ℕ) (place : ℕ → ℕ) (k a : ℕ) (vs : List ℕ) → Run place k a (length vs) → side_written m place k vs ≡ sets m a vs
written-run m place k a vs h = written-along m place k (λ x. x) a vs h ∙ written-straight m a vs

pub plain-written : (m : List ℕ) (w a k : ℕ) (vs : List ℕ) → side_written m (place_of false w a) k vs ≡ sets m (a + k) vs
plain-written m w a k vs = written-run m (place_of false w a) k (a + k) vs (plain-run w a k (length vs))

module _ (place : ℕ → ℕ) where
  pub length-written : (m : List ℕ) (k : ℕ) (vs : List ℕ) → length (side_written m place k vs) ≡ length m
  unfolding side_written
  length-written m k [] = refl
  length-written m k (v ∷ vs) = length-written (set m (place k) v) (suc k) vs ∙ length-set m (place k) v

  pub written-append : (m : List ℕ) (k : ℕ) (xs ys : List ℕ)
      → side_written m place k (xs ++ ys) ≡ side_written (side_written m place k xs) place (k + length xs) ys
  unfolding side_written
  written-append m k [] ys = ap (λ (x : ℕ). side_written m place x ys) (sym (add-zero k))
  written-append m k (v ∷ xs) ys =
      written-append (set m (place k) v) (suc k) xs ys
      ∙ ap (λ (x : ℕ). side_written (side_written m place k (v ∷ xs)) place x ys) (over k (length xs))

  -- a byte to which none is written stays
  pub written-other : (m : List ℕ) (k : ℕ) (vs : List ℕ) (x : ℕ) → ((i : ℕ) → i < length vs → place (k + i) ≡ x → ⊥)
      → get_or (side_written m place k vs) x 0 ≡ get_or m x 0
  unfolding side_written
  written-other m k [] x h = refl
  written-other m k (v ∷ vs) x h =
      written-other (set m (place k) v) (suc k) vs x (λ i l e. h (suc i) (omega arith) (ap place (sym (over k i)) ∙ e))
      ∙ get_or-set_other m (place k) x v 0 (λ e. h 0 (omega arith) (ap place (add-zero k) ∙ sym e))

  -- one to which no later value is written holds its value
  pub written_at : (m : List ℕ) (k : ℕ) (vs : List ℕ) (i : ℕ) → i < length vs → place (k + i) < length m
      → ((j : ℕ) → i < j → j < length vs → place (k + j) ≡ place (k + i) → ⊥)
      → get_or (side_written m place k vs) (place (k + i)) 0 ≡ get_or vs i 0
  unfolding side_written
  written_at m k [] i l fits h = absurd (not-suc-le-zero l)
  written_at m k (v ∷ vs) zero l fits h =
      written-other (set m (place k) v) (suc k) vs (place (k + 0)) (λ j b e. h (suc j) (omega arith) (omega arith) (ap place (sym (over k j)) ∙ e))
      ∙ ap (λ (x : ℕ). get_or (set m (place k) v) (place x) 0) (add-zero k)
      ∙ get_or-set_same m (place k) v 0 (omega (arith, ap place (add-zero k)))
  written_at m k (v ∷ vs) (suc i) l fits h =
      ap (λ (x : ℕ). get_or (side_written (set m (place k) v) place (suc k) vs) (place x) 0) (sym (over k i))
      ∙ written_at (set m (place k) v) (suc k) vs i (omega arith) (simp length-set (omega (arith, ap place (over k i))))
      (λ j a b e. h (suc j) (omega arith) (omega arith) (ap place (sym (over k j)) ∙ e ∙ ap place (over k i)))

  written_same : (m : List ℕ) (x v k u : ℕ) (vs : List ℕ) → place k ≡ x
      → side_written (set (set m x v) (place k) u) place (suc k) vs ≡ side_written (set m (place k) u) place (suc k) vs
  written_same m x v k u vs e =
      ap (λ (y : ℕ). side_written (set (set m y v) (place k) u) place (suc k) vs) (sym e)
      ∙ ap (λ (s : List ℕ). side_written s place (suc k) vs) (set-set m (place k) v u)

  -- a store to a place that is written later is as if it had not been
  pub written_over : (m : List ℕ) (x v k : ℕ) (vs : List ℕ) (i : ℕ) → i < length vs → place (k + i) ≡ x
      → side_written (set m x v) place k vs ≡ side_written m place k vs
  unfolding side_written
  written_over m x v k [] i l e = absurd (not-suc-le-zero l)
  written_over m x v k (u ∷ vs) zero l e = written_same m x v k u vs (ap place (sym (add-zero k)) ∙ e)
  written_over m x v k (u ∷ vs) (suc i) l e = ⊎_elim
      (λ q. written_same m x v k u vs (eqb-true (place k) x q))
      (λ q. ap (λ (s : List ℕ). side_written s place (suc k) vs) (set_comm m x (place k) v u (λ p. eqb-false (place k) x q (sym p)))
      ∙ written_over (set m (place k) u) x v (suc k) vs i (omega arith) (ap place (over k i) ∙ e))
      (decide (eqb (place k) x))

-- ---- a burst

pub moved-along : (m : List ℕ) (reads writes : ℕ → ℕ) (k j n : ℕ) → Along reads k reads j n → Along writes k writes j n
    → sides_moved m reads writes k n ≡ sides_moved m reads writes j n
moved-along m reads writes k j n h g =
    written-along m writes k writes j (side_read m reads k n) (λ i l. g i (omega (arith, length-read m reads k n)))
    ∙ ap (side_written m writes j) (read-along m reads k reads j n h)

module _ (m : List ℕ) (reads writes : ℕ → ℕ) (w : ℕ) (some : 0 < w) (again : Period writes w) where
  moved_later : (k d c : ℕ) → w ≤ c → sides_moved m reads writes k (d + c) ≡ sides_moved m reads writes (k + d) c
  unfolding side_read side_written
  moved_later k zero c h = ap₂ (sides_moved m reads writes) (sym (add-zero k)) (zero-add c)
  moved_later k (suc d) c h =
      let values : List ℕ = side_read m reads (suc k) (d + c) in
      let back : suc k + (w - 1) ≡ k + w = omega arith in
      ap (sides_moved m reads writes k) (suc-add d c)
      ∙ written_over writes m (writes k) (get_or m (reads k) 0) (suc k) values (w - 1)
      (omega (arith, length-read m reads (suc k) (d + c))) (ap writes back ∙ again k)
      ∙ moved_later (suc k) d c h
      ∙ ap (λ (x : ℕ). sides_moved m reads writes x c) (over k d)

  -- where the destination's places come again after w bytes, the last w bytes are all that remains
  pub moved-last : (k n c : ℕ) → c ≡ min n w → sides_moved m reads writes k n ≡ sides_moved m reads writes (k + (n - c)) c
  moved-last k n c e = min_cases n w _
      (λ l q. ap₂ (sides_moved m reads writes) (omega arith) (omega arith))
      (λ l q. let parts : n ≡ n - c + c = omega arith in
      ap (sides_moved m reads writes k) parts ∙ moved_later k (n - c) c (omega arith))
