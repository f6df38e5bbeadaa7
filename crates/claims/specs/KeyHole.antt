-- RULES.md, "Descriptor and steps", key hole: the pieces of a fixed destination, what its word holds after each and at the end, and what a
-- fixed source fills. Demand 3 itself, for sides that increment: specs/Transfers.antt.
use Rattle.std.specs.Prelude.{◌≡◌, ℕ, zero, suc, ◌+◌, ◌-◌, ◌*◌, ◌/◌, ◌%◌, ◌≤◌, ◌<◌, min, true, false, List, [], ◌∷◌, length, get_or, eqb}
use Rattle.kit.specs.Settings.{legal_of}
use Rattle.kit.specs.Word.{word_at}
use Rattle.cut.specs.declared.Burst.{Burst}
use Rattle.memory.specs.declared.window.Window.{Window}
use Rattle.sides.specs.Sides.{place_of, side_bytes, Apart}
use Rattle.state.specs.declared.engine.Engine.{Engine}
use Rattle.state.specs.declared.engine.Transfer.{Transfer}
use Rattle.state.specs.declared.engine.Phase.TheVariants.{Move}
use Rattle.steps.specs.declared.event.Event.TheVariants.{Move as Moved}
use Rattle.steps.specs.Step.{piece_bytes, status_place, advance_of}
use Rattle.claims.specs.Transfers.{Act, bursts, Completes, Outside, Own, left}

-- ---- a fixed destination: one piece

-- from memory m to memory m' by the piece b of the transfer t: it goes to the start, the last W of its bytes remain there as
-- they were when the piece was read, and no other byte differs
pub record Remained (s : Engine) (t : Transfer) (b : Burst) (m m' : List ℕ) : Type 0 where
  pub start : b.start ≡ t.destination
  pub bytes : (i : ℕ) → i < b.bytes → b.bytes ≤ i + s.settings.width
      → get_or m' (t.destination + (t.moved + i) % s.settings.width) 0
      ≡ get_or m (place_of s.control.keyholeread s.settings.width t.source (t.moved + i)) 0
  pub others : (x : ℕ) → Outside x t.destination s.settings.width → get_or m' x 0 ≡ get_or m x 0

-- whatever memory and windows the step is lent, and wherever the source lies
abbrev pub Remain : Type 0
Remain = (s : Engine) (t : Transfer) (b : Burst) (m : List ℕ) (windows : List Window) → legal_of s.settings ≡ true → s.phase ≡ Move t
    → s.control.keyholewrite ≡ true → (advance_of s m windows).event ≡ Moved b → Remained s t b m (advance_of s m windows).memory

-- ---- a fixed destination: its pieces

-- n bytes to the start a, in at most k pieces of p bytes, the last one shorter
unfoldable pub pieces_within : ℕ → ℕ → ℕ → ℕ → List Burst
pieces_within zero p a n = []
pieces_within (suc k) p a n =
    elim (eqb n 0) [ true ↦ [] | false ↦ record { start = a; bytes = min p n } ∷ pieces_within k p a (n - p) ]

-- each has a byte at least, so n pieces are enough
unfoldable pub pieces : ℕ → ℕ → ℕ → List Burst
pieces p a n = pieces_within n p a n

abbrev pub sum_of : List Burst → ℕ
sum_of [] = 0
sum_of (b ∷ more) = b.bytes + sum_of more

-- the bursts are those pieces, of W times the smaller of L and 16 bytes: the count divided by that, rounded up; they add up
-- to the count
pub record Pieced (s : Engine) (t : Transfer) (moved : List Burst) : Type 0 where
  pub cuts : moved ≡ pieces (piece_bytes s.settings) t.destination t.total
  pub count : let p = s.settings.width * min s.settings.beats 16 in length moved ≡ (t.total + p - 1) / p
  pub sum : sum_of moved ≡ t.total

-- whatever memory and windows each step is lent, and whether the source is fixed or not
abbrev pub Pieces : Type 0
Pieces = (s : Engine) (t : Transfer) (first : Act) (rest : List Act) → Completes s t first rest → s.control.keyholewrite ≡ true
    → Pieced s t (bursts s (first ∷ rest))

-- ---- a fixed destination: its word

-- the bytes that a source uses, from its start on
abbrev pub source_bytes : Engine → Transfer → ℕ
source_bytes s t = side_bytes s.control.keyholeread s.settings.width t.total

-- the premises: nothing else touches the memory, the source does not overlap the destination's word, and in chain mode that
-- word misses the status word
pub record AloneAtWord (s : Engine) (t : Transfer) (m : List ℕ) (acts : List Act) : Type 0 where
  pub own : Own m s acts
  pub apart : Apart t.source (source_bytes s t) t.destination s.settings.width
  pub misses : s.control.sgmode ≡ true → Apart t.destination s.settings.width (status_place s) 4

-- from memory m to memory m': the word at the destination holds the last W bytes of the source as they were, which of a fixed
-- source are its word; in chain mode the status word says complete; no other byte differs
pub record Pushed (s : Engine) (t : Transfer) (m m' : List ℕ) : Type 0 where
  pub size : length m' ≡ length m
  pub source_within : t.source + source_bytes s t ≤ length m
  pub destination_within : t.destination + s.settings.width ≤ length m
  pub bytes : (i : ℕ) → i < s.settings.width
      → get_or m' (t.destination + i) 0 ≡ get_or m (t.source + (source_bytes s t - s.settings.width + i)) 0
  pub status : s.control.sgmode ≡ true → word_at m' (status_place s) ≡ 0x80000000
  pub others : (x : ℕ) → Outside x t.destination s.settings.width → (s.control.sgmode ≡ true → Outside x (status_place s) 4)
      → get_or m' x 0 ≡ get_or m x 0

abbrev pub Push : Type 0
Push = (s : Engine) (t : Transfer) (first : Act) (rest : List Act) (m : List ℕ) → Completes s t first rest → s.control.keyholewrite ≡ true
    → AloneAtWord s t m (first ∷ rest) → Pushed s t m (left m s (first ∷ rest))

-- ---- a fixed source

-- the premises: nothing else touches the memory, the source's word does not overlap the destination, and in chain mode the
-- destination misses the status word
pub record AloneFromWord (s : Engine) (t : Transfer) (m : List ℕ) (acts : List Act) : Type 0 where
  pub own : Own m s acts
  pub apart : Apart t.source s.settings.width t.destination t.total
  pub misses : s.control.sgmode ≡ true → Apart t.destination t.total (status_place s) 4

-- from memory m to memory m': the destination holds the source's word as it was, again and again; in chain mode the status
-- word says complete; no other byte differs
pub record Filled (s : Engine) (t : Transfer) (m m' : List ℕ) : Type 0 where
  pub size : length m' ≡ length m
  pub source_within : t.source + s.settings.width ≤ length m
  pub destination_within : t.destination + t.total ≤ length m
  pub bytes : (i : ℕ) → i < t.total → get_or m' (t.destination + i) 0 ≡ get_or m (t.source + i % s.settings.width) 0
  pub status : s.control.sgmode ≡ true → word_at m' (status_place s) ≡ 0x80000000
  pub others : (x : ℕ) → Outside x t.destination t.total → (s.control.sgmode ≡ true → Outside x (status_place s) 4) → get_or m' x 0 ≡ get_or m x 0

abbrev pub Fill : Type 0
Fill = (s : Engine) (t : Transfer) (first : Act) (rest : List Act) (m : List ℕ) → Completes s t first rest → s.control.keyholeread ≡ true
    → s.control.keyholewrite ≡ false → AloneFromWord s t m (first ∷ rest) → Filled s t m (left m s (first ∷ rest))
