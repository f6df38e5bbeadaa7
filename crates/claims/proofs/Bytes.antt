-- The memory in the midst of a transfer of which only its own steps touch it: what each burst and the update leave.
use mathlib.Core.Path.{◌≡◌, refl, sym, ap, subst, ◌∙◌}
use mathlib.Core.Logic.{◌⊎◌, inl, inr}
use mathlib.Core.Bool.{true, false}
use mathlib.Core.List.{List}
use Prim.Native.Nat.{ℕ, ◌+◌, ◌-◌, ◌≤◌, ◌<◌}
use native.Mathlib.Nat.{add-zero}
use native.Mathlib.Omega.{arith}
use lib.ListN.{length, get_or}
use lib.Seq.{sets, length-sets}
use lib.Dec.{ltb}
use borrow.Author.Tests.{ltb-true, ltb-false}
use Rattle.kit.specs.Word.{bytes_of, word_at}
use Rattle.kit.proofs.Choice.{decide, never}
use Rattle.memory.proofs.Stores.{sets-outside, sets-inside}
use Rattle.sides.specs.Sides.{Inside, sides_moved}
use Rattle.sides.proofs.Claims.{claims}
use Rattle.sides.proofs.Moves.{moved_at}
use Rattle.state.specs.declared.engine.Engine.{Engine}
use Rattle.state.specs.declared.engine.Transfer.{Transfer}
use Rattle.steps.specs.Step.{read_place, write_place, status_place}
use Rattle.claims.specs.Transfers.{Outside}

-- s is the state before the transfer t
module _ (s : Engine) (t : Transfer) where
  -- where its bytes are read and written
  abbrev pub reads : ℕ → ℕ
  reads = read_place s.settings s.control.keyholeread t

  abbrev pub writes : ℕ → ℕ
  writes = write_place s.settings s.control.keyholewrite t

  -- no byte is written where one is read, or in chain mode to the status word
  pub record Clear : Type 0 where
    pub apart : (i j : ℕ) → i < t.total → j < t.total → reads i ≡ writes j → ⊥
    pub misses : s.control.sgmode ≡ true → (j : ℕ) → j < t.total → Outside (writes j) (status_place s) 4

  -- the first k bytes have come from memory m₀, of two at one place the later one stays, and nothing else is changed
  pub record Held (k : ℕ) (m₀ m : List ℕ) : Type 0 where
    pub clear : Clear
    pub size : length m ≡ length m₀
    pub inside : (i : ℕ) → i < k → (reads i < length m₀) × (writes i < length m₀)
    pub bytes : (i : ℕ) → i < k → ((j : ℕ) → i < j → j < k → writes j ≡ writes i → ⊥) → get_or m (writes i) 0 ≡ get_or m₀ (reads i) 0
    pub others : (x : ℕ) → ((j : ℕ) → j < k → writes j ≡ x → ⊥) → get_or m x 0 ≡ get_or m₀ x 0

  pub held_none : Clear → (m : List ℕ) → Held 0 m m
  held_none c m = record { clear = c; size = refl; inside = λ i h. absurd (omega arith); bytes = λ i h. absurd (omega arith); others = λ x h. refl }

  -- one burst of n bytes more
  module _ (k n : ℕ) (m₀ m : List ℕ) (h : Held k m₀ m) (within : k + n ≤ t.total)
      (source : Inside (length m) reads k n) (destination : Inside (length m) writes k n) where
    abbrev later : List ℕ
    later = sides_moved m reads writes k n

    -- byte i of the transfer, as one of the burst
    at : (i : ℕ) → k ≤ i → k + (i - k) ≡ i
    at i late = omega (arith, late)

    lies : (i : ℕ) → i < k + n → (ltb i k ≡ true) ⊎ (ltb i k ≡ false) → (reads i < length m₀) × (writes i < length m₀)
    lies i j (inl e) = h.inside i (ltb-true i k e)
    lies i j (inr e) =
        let late = ltb-false i k e in
        let less : i - k < n = omega (arith, j, late) in (
          subst (λ (l : ℕ). reads i < l) h.size (subst (λ (x : ℕ). reads x < length m) (at i late) (source (i - k) less)),
          subst (λ (l : ℕ). writes i < l) h.size (subst (λ (x : ℕ). writes x < length m) (at i late) (destination (i - k) less)),
        )

    byte : (i : ℕ) → i < k + n → ((j : ℕ) → i < j → j < k + n → writes j ≡ writes i → ⊥) → (ltb i k ≡ true) ⊎ (ltb i k ≡ false)
        → get_or later (writes i) 0 ≡ get_or m₀ (reads i) 0
    byte i j last (inl e) =
        let early = ltb-true i k e in
        claims.others-stay m reads writes k n (writes i) (λ x less. last (k + x) (omega (arith, early)) (omega (arith, less)))
        ∙ h.bytes i early (λ x a b. last x a (omega (arith, b)))
    byte i j last (inr e) =
        let late = ltb-false i k e in
        let less : i - k < n = omega (arith, j, late) in
        subst (λ (x : ℕ). get_or later (writes x) 0 ≡ get_or m (reads x) 0) (at i late)
        (moved_at m reads writes k n (i - k) less (destination (i - k) less)
        (λ x a b f. last (k + x) (omega (arith, a, late)) (omega (arith, b)) (f ∙ ap writes (at i late))))
        ∙ h.others (reads i) (λ x less f. h.clear.apart i x (omega (arith, j, within)) (omega (arith, less, within)) (sym f))

    pub held-burst : Held (k + n) m₀ later
    held-burst = record {
      clear = h.clear;
      size = claims.length-stays m reads writes k n ∙ h.size;
      inside = λ i j. lies i j (decide (ltb i k));
      bytes = λ i j last. byte i j last (decide (ltb i k));
      others = λ x none. claims.others-stay m reads writes k n x (λ j less. none (k + j) (omega (arith, less))) ∙ h.others x (λ j less. none j (omega (arith, less)));
    }

  -- at the transfer's end: in chain mode the status word is written too
  pub record Arrived (m₀ m : List ℕ) : Type 0 where
    pub size : length m ≡ length m₀
    pub inside : (i : ℕ) → i < t.total → (reads i < length m₀) × (writes i < length m₀)
    pub bytes : (i : ℕ) → i < t.total → ((j : ℕ) → i < j → j < t.total → writes j ≡ writes i → ⊥) → get_or m (writes i) 0 ≡ get_or m₀ (reads i) 0
    pub status : s.control.sgmode ≡ true → word_at m (status_place s) ≡ 0x80000000
    pub others : (x : ℕ) → ((j : ℕ) → j < t.total → writes j ≡ x → ⊥) → (s.control.sgmode ≡ true → Outside x (status_place s) 4)
        → get_or m x 0 ≡ get_or m₀ x 0

  -- simple mode: the last burst ends it
  pub arrived-simple : s.control.sgmode ≡ false → (m₀ m : List ℕ) → Held t.total m₀ m → Arrived m₀ m
  arrived-simple simple m₀ m h = record {
    size = h.size;
    inside = h.inside;
    bytes = h.bytes;
    status = λ chain. absurd (never (sym simple ∙ chain));
    others = λ x none _. h.others x none;
  }

  -- chain mode: the update writes the status word
  module _ (chain : s.control.sgmode ≡ true) (m₀ m : List ℕ) (h : Held t.total m₀ m) (fits : status_place s + 4 ≤ length m) where
    word : (j : ℕ) → j < 4 → get_or (sets m (status_place s) (bytes_of 0x80000000)) (status_place s + j) 0 ≡ get_or (bytes_of 0x80000000) j 0
    word j i = sets-inside m (status_place s) (bytes_of 0x80000000) j 0 i fits

    first : get_or (sets m (status_place s) (bytes_of 0x80000000)) (status_place s) 0 ≡ 0
    first = ap (λ (x : ℕ). get_or (sets m (status_place s) (bytes_of 0x80000000)) x 0) (sym (add-zero (status_place s))) ∙ word 0 (omega arith)

    unwritten : (x : ℕ) → Outside x (status_place s) 4 → get_or (sets m (status_place s) (bytes_of 0x80000000)) x 0 ≡ get_or m x 0
    unwritten x o = sets-outside m (status_place s) (bytes_of 0x80000000) x 0 o

    pub arrived-chain : Arrived m₀ (sets m (status_place s) (bytes_of 0x80000000))
    arrived-chain = record {
      size = length-sets m (status_place s) (bytes_of 0x80000000) ∙ h.size;
      inside = h.inside;
      bytes = λ i j last. unwritten (writes i) (h.clear.misses chain i j) ∙ h.bytes i j last;
      status = λ _. omega (arith, first, word 1 (omega arith), word 2 (omega arith), word 3 (omega arith));
      others = λ x none p. unwritten x (p chain) ∙ h.others x none;
    }
