-- Bursts to a fixed word, one after the other: a word of bytes overwrites all that was there, and bytes elsewhere are read as before.
use mathlib.Core.Path.{◌≡◌, refl, sym, ap, ap₂, ◌∙◌}
use mathlib.Core.Bool.{true}
use mathlib.Core.List.{List, [], ◌∷◌}
use Prim.Native.Nat.{ℕ, zero, suc, ◌+◌, ◌-◌, ◌%◌, ◌≤◌, ◌<◌}
use native.Mathlib.Omega.{arith}
use native.Mathlib.Nat.{mod-lt, mod-mod, mod-add-mod, add-mod-mod, add-mod_right}
use lib.ListN.{length, set}
use Rattle.sides.specs.Sides.{place_of, side_read, side_written, sides_moved}
use Rattle.sides.proofs.Places.{over, length-read, written-other, written_over}

-- bytes to which none is written are read as before
unread : (m : List ℕ) (reads writes : ℕ → ℕ) (k : ℕ) (vs : List ℕ) (q n : ℕ)
    → ((i j : ℕ) → i < n → j < length vs → writes (k + j) ≡ reads (q + i) → ⊥)
    → side_read (side_written m writes k vs) reads q n ≡ side_read m reads q n
unfolding side_read
unread m reads writes k vs q zero h = refl
unread m reads writes k vs q (suc n) h =
    ap₂ {C = List ℕ} ◌∷◌
    (written-other writes m k vs (reads q) (λ j l e. h 0 j (omega arith) l (e ∙ ap reads (omega arith))))
    (unread m reads writes k vs (suc q) n (λ i j l o e. h (suc i) j (omega arith) o (e ∙ ap reads (over q i))))

module _ (w b : ℕ) (some : 0 < w) where
  -- how far past byte q the byte that lies where byte x does comes next
  abbrev ahead : ℕ → ℕ → ℕ
  ahead q x = (x % w + (w - q % w)) % w

  ahead-place : (q x : ℕ) → place_of true w b (q + ahead q x) ≡ place_of true w b x
  ahead-place q x =
      let few = mod-lt q some in
      let turn : q % w + (x % w + (w - q % w)) ≡ x % w + w = omega arith in
      ap (λ (y : ℕ). b + y)
      (add-mod-mod q (x % w + (w - q % w)) w ∙ sym (mod-add-mod q w (x % w + (w - q % w))) ∙ ap (λ (y : ℕ). y % w) turn ∙ add-mod_right (x % w) w ∙ mod-mod x w)

  overwritten : (m : List ℕ) (k : ℕ) (xs : List ℕ) (q : ℕ) (ys : List ℕ) → w ≤ length ys
      → side_written (side_written m (place_of true w b) k xs) (place_of true w b) q ys ≡ side_written m (place_of true w b) q ys
  unfolding side_written
  overwritten m k [] q ys h = refl
  overwritten m k (v ∷ xs) q ys h =
      overwritten (set m (place_of true w b k) v) (suc k) xs q ys h
      ∙ written_over (place_of true w b) m (place_of true w b k) v q ys (ahead q k)
      (omega (arith, mod-lt (k % w + (w - q % w)) some)) (ahead-place q k)

  -- the earlier of two bursts, of which the later has a word at least and reads none of its bytes, is as if it had not been
  pub moved-over : (m : List ℕ) (reads : ℕ → ℕ) (k n q c : ℕ) → w ≤ c
      → ((i j : ℕ) → i < c → j < n → place_of true w b (k + j) ≡ reads (q + i) → ⊥)
      → sides_moved (sides_moved m reads (place_of true w b) k n) reads (place_of true w b) q c ≡ sides_moved m reads (place_of true w b) q c
  moved-over m reads k n q c long clear =
      let writes : ℕ → ℕ = place_of true w b in
      let values : List ℕ = side_read m reads k n in
      ap (side_written (side_written m writes k values) writes q)
      (unread m reads writes k values q c (λ i j l o. clear i j l (omega (arith, length-read m reads k n))))
      ∙ overwritten m k values q (side_read m reads q c) (omega (arith, length-read m reads q c))
