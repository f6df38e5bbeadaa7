-- The claims about memory: of specs/Transfers.antt where both sides increment, of specs/KeyHole.antt where one is fixed.
use mathlib.Core.Path.{◌≡◌, refl, sym, ap, subst, ◌∙◌}
use mathlib.Core.Bool.{Bool, true, false}
use mathlib.Core.Logic.{inl, inr}
use mathlib.Core.List.{List, ◌∷◌}
use Prim.Native.Nat.{ℕ, zero, suc, ◌+◌, ◌-◌, ◌*◌, ◌/◌, ◌%◌, ◌≤◌, ◌<◌}
use native.Mathlib.Nat.{sub-zero, mul-suc, mod-eq_of_lt, div-add-mod, add-mul-mod_self_left}
use native.Mathlib.Omega.{arith}
use lib.ListN.{length, get_or}
use Rattle.kit.proofs.Legal.{legal}
use Rattle.sides.specs.Sides.{place_of, side_bytes, Apart}
use Rattle.sides.proofs.Ranges.{within, disjoint}
use Rattle.state.specs.declared.engine.Engine.{Engine}
use Rattle.state.specs.declared.engine.Transfer.{Transfer}
use Rattle.steps.specs.Step.{piece_bytes, status_place}
use Rattle.claims.specs.Transfers.{Act, bursts, Completes, Outside, left, Copy}
use Rattle.claims.specs.KeyHole.{pieces, sum_of, Pieces, Push, Fill}
use Rattle.claims.proofs.Bytes.{reads, writes, Clear, Arrived}
use Rattle.claims.proofs.Claims.{begun, moved, arrives}
use Rattle.claims.proofs.Pieces.{pieces-sum, pieces-count}
use Rattle.claims.proofs.Progress.{remains_by, some-piece}

-- ---- places

module _ (w : ℕ) (some : 0 < w) where
  -- i bytes past a multiple of the width
  module _ (n : ℕ) (whole : n % w ≡ 0) where
    past : (i : ℕ) → i < w → (n + i) % w ≡ i
    past i h =
        let parts : n + i ≡ i + w * (n / w) = omega (arith, div-add-mod n w, whole) in
        ap (λ (x : ℕ). x % w) parts ∙ add-mul-mod_self_left i w (n / w) ∙ mod-eq_of_lt h

  -- a multiple of the width that has bytes has a word at least, and without it is still one
  less-word : (n : ℕ) → 0 < n → n % w ≡ 0 → (w ≤ n) × ((n - w) % w ≡ 0)
  less-word n h e = go (n / w) (div-add-mod n w)
    where
      go : (q : ℕ) → w * q + n % w ≡ n → (w ≤ n) × ((n - w) % w ≡ 0)
      go zero f = absurd (omega (arith, f, e, h))
      go (suc q) f =
          let g : n - w ≡ 0 + w * q = omega (arith, f, e, mul-suc w q) in
          (omega (arith, f, e, mul-suc w q), ap (λ (x : ℕ). x % w) g ∙ add-mul-mod_self_left 0 w q ∙ mod-eq_of_lt some)

-- the last byte that a side uses
end-place : (w : ℕ) → 0 < w → (fixed : Bool) (a total : ℕ) → 0 < total → (fixed ≡ true → w ≤ total)
    → (side_bytes fixed w total - 1 < total) × (0 < side_bytes fixed w total) × (place_of fixed w a (side_bytes fixed w total - 1) ≡ a + (side_bytes fixed w total - 1))
end-place w some true a total h f =
    let e = f refl in
    (omega (arith, some, e), some, ap (λ (x : ℕ). a + x) (mod-eq_of_lt {n = w - 1} {m = w} (omega (arith, some))))
end-place w some false a total h f = (omega (arith, h), h, refl)

misses : (a n b k x : ℕ) → Apart a n b k → (a ≤ x) × (x < a + n) → Outside x b k
misses a n b k x (inl h) p = inl (omega (arith, h, p.1))
misses a n b k x (inr h) p = inr (omega (arith, h, p.0))

outside : (a n x y : ℕ) → Outside x a n → (a ≤ y) × (y < a + n) → y ≡ x → ⊥
outside a n x y (inl h) p e = omega (arith, h, p.0, e)
outside a n x y (inr h) p e = omega (arith, h, p.1, e)

-- ---- a transfer

module _ (s : Engine) (t : Transfer) (first : Act) (rest : List Act) (c : Completes s t first rest) where
  abbrev w : ℕ
  w = s.settings.width

  some_word : 0 < w
  some_word = (legal w s.settings.beats c.legal).width_positive

  -- sides whose bytes do not overlap, by their spans
  apart : Apart t.source (side_bytes s.control.keyholeread w t.total) t.destination (side_bytes s.control.keyholewrite w t.total)
      → (s.control.sgmode ≡ true → Apart t.destination (side_bytes s.control.keyholewrite w t.total) (status_place s) 4) → Clear s t
  apart a m = record {
    apart = λ i j h k. disjoint t.source (side_bytes s.control.keyholeread w t.total) t.destination (side_bytes s.control.keyholewrite w t.total) (reads s t i) (writes s t j) a (within w some_word s.control.keyholeread t.source t.total i h) (within w some_word s.control.keyholewrite t.destination t.total j k);
    misses = λ chain j k. misses t.destination (side_bytes s.control.keyholewrite w t.total) (status_place s) 4 (writes s t j) (m chain) (within w some_word s.control.keyholewrite t.destination t.total j k);
  }

  -- a byte outside what the destination uses is written by none
  none-there : (x : ℕ) → Outside x t.destination (side_bytes s.control.keyholewrite w t.total) → (j : ℕ) → j < t.total → writes s t j ≡ x → ⊥
  none-there x o j h = outside t.destination (side_bytes s.control.keyholewrite w t.total) x (writes s t j) o (within w some_word s.control.keyholewrite t.destination t.total j h)

  -- a fixed side's word is within the count
  read_word : s.control.keyholeread ≡ true → (w ≤ t.total) × ((t.total - w) % w ≡ 0)
  read_word e = let b = (begun s t first rest c).suited in less-word w some_word t.total b.some (b.read e).1

  write_word : s.control.keyholewrite ≡ true → (w ≤ t.total) × ((t.total - w) % w ≡ 0)
  write_word e = let b = (begun s t first rest c).suited in less-word w some_word t.total b.some (b.write e).1

  -- all that a side uses lies in the memory
  module _ {m m' : List ℕ} (d : Arrived s t m m') where
    source-within : t.source + side_bytes s.control.keyholeread w t.total ≤ length m
    source-within =
        let e = end-place w some_word s.control.keyholeread t.source t.total (begun s t first rest c).suited.some (λ f. (read_word f).0) in
        let h = (d.inside (side_bytes s.control.keyholeread w t.total - 1) e.0).0 in
        omega (arith, h, e.1, e.2)

    destination-within : t.destination + side_bytes s.control.keyholewrite w t.total ≤ length m
    destination-within =
        let e = end-place w some_word s.control.keyholewrite t.destination t.total (begun s t first rest c).suited.some (λ f. (write_word f).0) in
        let h = (d.inside (side_bytes s.control.keyholewrite w t.total - 1) e.0).1 in
        omega (arith, h, e.1, e.2)

  -- the destination increments: each byte has its own place
  module _ (plain : s.control.keyholewrite ≡ false) {m m' : List ℕ} (d : Arrived s t m m') where
    to : (i : ℕ) → writes s t i ≡ t.destination + i
    to i = ap (λ (b : Bool). place_of b w t.destination i) plain

    each-byte : (i : ℕ) → i < t.total → get_or m' (t.destination + i) 0 ≡ get_or m (reads s t i) 0
    each-byte i h = ap (λ (x : ℕ). get_or m' x 0) (sym (to i)) ∙ d.bytes i h (λ j a _ e. omega (arith, a, e, to i, to j))

pub copy : Copy
copy s t first rest m c reading writing a =
    let w = s.settings.width in
    let n = ap (λ (b : Bool). side_bytes b w t.total) reading in
    let k = ap (λ (b : Bool). side_bytes b w t.total) writing in
    let d = arrives s t first rest c m a.own (apart s t first rest c
    (subst (λ (x : ℕ). Apart t.source x t.destination (side_bytes s.control.keyholewrite w t.total)) (sym n)
    (subst (λ (x : ℕ). Apart t.source t.total t.destination x) (sym k) a.apart))
    (λ chain. subst (λ (x : ℕ). Apart t.destination x (status_place s) 4) (sym k) (a.misses chain))) in
    record {
      size = d.size;
      source_within = omega (arith, source-within s t first rest c d, n);
      destination_within = omega (arith, destination-within s t first rest c d, k);
      bytes = λ i h. each-byte s t first rest c writing d i h ∙ ap (λ (b : Bool). get_or m (place_of b w t.source i) 0) reading;
      status = d.status;
      others = λ x o p. d.others x (none-there s t first rest c x (subst (Outside x t.destination) (sym k) o)) p;
    }

pub fill : Fill
fill s t first rest m c reading writing a =
    let w = s.settings.width in
    let n = ap (λ (b : Bool). side_bytes b w t.total) reading in
    let k = ap (λ (b : Bool). side_bytes b w t.total) writing in
    let d = arrives s t first rest c m a.own (apart s t first rest c
    (subst (λ (x : ℕ). Apart t.source x t.destination (side_bytes s.control.keyholewrite w t.total)) (sym n)
    (subst (λ (x : ℕ). Apart t.source w t.destination x) (sym k) a.apart))
    (λ chain. subst (λ (x : ℕ). Apart t.destination x (status_place s) 4) (sym k) (a.misses chain))) in
    record {
      size = d.size;
      source_within = omega (arith, source-within s t first rest c d, n);
      destination_within = omega (arith, destination-within s t first rest c d, k);
      bytes = λ i h. each-byte s t first rest c writing d i h ∙ ap (λ (b : Bool). get_or m (place_of b w t.source i) 0) reading;
      status = d.status;
      others = λ x o p. d.others x (none-there s t first rest c x (subst (Outside x t.destination) (sym k) o)) p;
    }

-- the last word of what a source gives
last-read : (w : ℕ) (some : 0 < w) (fixed : Bool) (a total i : ℕ) → (total - w) % w ≡ 0 → i < w
    → place_of fixed w a (total - w + i) ≡ a + (side_bytes fixed w total - w + i)
last-read w some true a total i e h = let p = past w some (total - w) e i h in omega (arith, p)
last-read w some false a total i e h = refl

pub push : Push
push s t first rest m c writing a =
    let w = s.settings.width in
    let fixed = s.control.keyholeread in
    let positive = some_word s t first rest c in
    let k = ap (λ (b : Bool). side_bytes b w t.total) writing in
    let word = write_word s t first rest c writing in
    let d = arrives s t first rest c m a.own (apart s t first rest c
    (subst (λ (x : ℕ). Apart t.source (side_bytes fixed w t.total) t.destination x) (sym k) a.apart)
    (λ chain. subst (λ (x : ℕ). Apart t.destination x (status_place s) 4) (sym k) (a.misses chain))) in
    let to : (i : ℕ) → i < w → writes s t (t.total - w + i) ≡ t.destination + i =
    λ i h. ap (λ (b : Bool). place_of b w t.destination (t.total - w + i)) writing ∙ ap (λ (x : ℕ). t.destination + x) (past w positive (t.total - w) word.1 i h) in
    record {
      size = d.size;
      source_within = source-within s t first rest c d;
      destination_within = omega (arith, destination-within s t first rest c d, k);
      bytes = λ i h. ap (λ (x : ℕ). get_or (left m s (first ∷ rest)) x 0) (sym (to i h))
          ∙ d.bytes (t.total - w + i) (omega (arith, word.0, h))
          (λ j more less e.
          let far : j - (t.total - w) < w = omega (arith, more, less) in
          let here : t.total - w + (j - (t.total - w)) ≡ j = omega (arith, more) in
          let same = to (j - (t.total - w)) far in
          omega (arith, more, sym (ap (writes s t) here) ∙ same, e, to i h))
          ∙ ap (λ (x : ℕ). get_or m x 0) (last-read w positive fixed t.source t.total i word.1 h);
      status = d.status;
      others = λ x o p. d.others x (none-there s t first rest c x (subst (Outside x t.destination) (sym k) o)) p;
    }

pub cut-pieces : Pieces
cut-pieces s t first rest c writing =
    let p = piece_bytes s.settings in
    let some = some-piece s t c.legal in
    let cuts : bursts s (first ∷ rest) ≡ pieces p t.destination t.total = moved s t first rest c ∙ ap (λ (b : Bool). remains_by s t b 0) writing ∙ ap (pieces p t.destination) (sub-zero t.total) in
    record {
      cuts = cuts;
      count = ap length cuts ∙ pieces-count p t.destination some t.total;
      sum = ap sum_of cuts ∙ pieces-sum p t.destination some t.total;
    }
