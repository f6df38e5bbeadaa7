-- The two laws of specs/Footprint.antt: a step changes only what it writes, and depends on the memory only through what it reads.
use mathlib.Core.Path.{◌≡◌, refl, sym, ap, ap₂, subst, ◌∙◌}
use Prim.Native.Nat.{ℕ, zero, suc, ◌+◌, ◌-◌, ◌≤◌, ◌<◌}
use mathlib.Core.Bool.{Bool, true, false}
use mathlib.Core.List.{List, [], ◌∷◌}
use native.Mathlib.Nat.{not-suc-le-zero, add-zero}
use native.Mathlib.Omega.{arith}
use lib.ListN.{length, get_or, set, length-set}
use lib.Seq.{sets, get_or-set_other}
use lib.Dec.{eqb}
use borrow.Author.Tests.{eq-eqb, eqb-true, eqb-false}
use Rattle.kit.specs.Choice.{either}
use Rattle.kit.specs.Settings.{among}
use Rattle.kit.specs.Word.{bytes_of, joined, word_at}
use Rattle.kit.proofs.Choice.{yes, never, either-right}
use Rattle.memory.specs.declared.window.Window.{Window}
use Rattle.memory.specs.declared.verdict.Verdict.{Verdict}
use Rattle.memory.specs.declared.verdict.Verdict.TheVariants.{Okay, Slave, Decode}
use Rattle.memory.specs.Verdict.{group_of}
use Rattle.sides.specs.Sides.{side_read, side_written}
use Rattle.sides.proofs.Places.{over, length-read, written-other, written-run}
use Rattle.state.specs.declared.engine.Engine.{Engine}
use Rattle.state.specs.declared.engine.Transfer.{Transfer}
use Rattle.state.specs.declared.engine.Outcome.{Outcome}
use Rattle.state.specs.declared.engine.Phase.{Phase}
use Rattle.state.specs.declared.engine.Phase.TheVariants.{Idle, Fetch, Move, Update}
use Rattle.state.specs.declared.engine.ErrorBit.TheVariants.{DmaSlvErr, DmaDecErr}
use Rattle.state.specs.Bits.{bit, pointer, error_bit_of}
use Rattle.state.specs.Descriptor.{descriptor_bytes, next_at, source_at, destination_at, control_at, status_at, complete, count_of, descriptor_at}
use Rattle.steps.specs.declared.event.Event.TheVariants.{Fault}
use Rattle.steps.specs.declared.event.Advanced.{Advanced}
use Rattle.steps.specs.Step.{AfterAdvance, read_place, write_place, next_bytes, burst_answer, fault_at, status_place, status_word_of, fetch_by, move_burst_by, update_by, accept_of, advance_by, advance_of}
use Rattle.independence.specs.Footprint.{bytes_from, places_from, if_okay, reads_by, writes_by, reads_of, writes_of, ChangesOnly, Same, DependsOnly}

-- ---- bytes of a list

-- byte k + i of a side is one of its n bytes from byte k on
among-places : (place : ℕ → ℕ) (k n i : ℕ) → i < n → among (place (k + i)) (places_from place k n) ≡ true
among-places place k zero i h = absurd (not-suc-le-zero h)
among-places place k (suc n) zero h = sym (yes _ (eq-eqb (place (k + 0)) (place k) (ap place (add-zero k))) refl)
among-places place k (suc n) (suc i) h =
    sym (either-right (eqb (place (k + suc i)) (place k))
    (sym (subst (λ (x : ℕ). among (place x) (places_from place (suc k) n) ≡ true) (over k i) (among-places place (suc k) n i (omega arith)))))

-- bytes in a row are those of a side whose byte k lies at k
bytes-places : (a n : ℕ) → bytes_from a n ≡ places_from (λ x. x) a n
bytes-places a zero = refl
bytes-places a (suc n) = ap (λ (l : List ℕ). a ∷ l) (bytes-places (suc a) n)

among-bytes : (a n x : ℕ) → a ≤ x → x < a + n → among x (bytes_from a n) ≡ true
among-bytes a n x low high =
    let at : a + (x - a) ≡ x = omega arith in
    ap (among x) (bytes-places a n)
    ∙ subst (λ (y : ℕ). among y (places_from (λ y. y) a n) ≡ true) at (among-places (λ y. y) a n (x - a) (omega arith))

-- ---- stores

-- a store leaves the same at its place in two memories of one length
set_same : (m m' : List ℕ) (x v : ℕ) → length m ≡ length m' → get_or (set m x v) x 0 ≡ get_or (set m' x v) x 0
set_same [] [] x v e = refl
set_same [] (_ ∷ _) x v e = absurd (omega arith)
set_same (_ ∷ _) [] x v e = absurd (omega arith)
set_same (_ ∷ m) (_ ∷ m') zero v e = refl
set_same (_ ∷ m) (_ ∷ m') (suc x) v e = set_same m m' x v (omega arith)

module _ (place : ℕ → ℕ) where
  -- only bytes that are written change
  written-changes : (m : List ℕ) (k : ℕ) (values : List ℕ) (n x : ℕ) → length values ≡ n → among x (places_from place k n) ≡ false
      → get_or (side_written m place k values) x 0 ≡ get_or m x 0
  written-changes m k values n x long none = written-other place m k values x
      (λ i less e. never (sym none ∙ subst (λ (y : ℕ). among y (places_from place k n) ≡ true) e (among-places place k n i (omega arith))))

  -- the same values leave the same at x in two memories of one length, if these agree there or it is written
  written-agrees : (m m' : List ℕ) (k : ℕ) (values : List ℕ) (x : ℕ) → length m ≡ length m'
      → (among x (places_from place k (length values)) ≡ false → get_or m x 0 ≡ get_or m' x 0)
      → get_or (side_written m place k values) x 0 ≡ get_or (side_written m' place k values) x 0
  unfolding side_written
  written-agrees m m' k [] x e h = h refl
  written-agrees m m' k (v ∷ values) x e h =
      written-agrees (set m (place k) v) (set m' (place k) v) (suc k) values x
      (length-set m (place k) v ∙ e ∙ sym (length-set m' (place k) v)) (go (eqb x (place k)) refl h)
    where
      go : (t : Bool) → eqb x (place k) ≡ t → (either t (among x (places_from place (suc k) (length values))) ≡ false → get_or m x 0 ≡ get_or m' x 0)
          → among x (places_from place (suc k) (length values)) ≡ false → get_or (set m (place k) v) x 0 ≡ get_or (set m' (place k) v) x 0
      go true here _ _ = subst (λ (y : ℕ). get_or (set m y v) x 0 ≡ get_or (set m' y v) x 0) (eqb-true x (place k) here) (set_same m m' x v e)
      go false there f none =
          let other = eqb-false x (place k) there in
          get_or-set_other m (place k) x v 0 other ∙ f none ∙ sym (get_or-set_other m' (place k) x v 0 other)

  -- so they do wherever it is written
  written_both : (m m' : List ℕ) (k : ℕ) (values : List ℕ) (n x : ℕ) → length m ≡ length m' → length values ≡ n → among x (places_from place k n) ≡ true
      → get_or (side_written m place k values) x 0 ≡ get_or (side_written m' place k values) x 0
  written_both m m' k values n x e long here =
      written-agrees m m' k values x e (λ none. absurd (never (sym none ∙ ap (λ (l : ℕ). among x (places_from place k l)) long ∙ here)))

-- a status word is written as to such a side
stored : (m : List ℕ) (at : ℕ) (word : List ℕ) → side_written m (λ x. x) at word ≡ sets m at word
stored m at word = written-run m (λ x. x) at at word (λ i less. refl)

-- ---- reads

module _ (m m' : List ℕ) where
  -- two memories agree at these bytes
  abbrev pub Agree : List ℕ → Type 0
  Agree places = (x : ℕ) → among x places ≡ true → get_or m x 0 ≡ get_or m' x 0

  -- what is read of them is the same
  read-agrees : (place : ℕ → ℕ) (k n : ℕ) → Agree (places_from place k n) → side_read m place k n ≡ side_read m' place k n
  unfolding side_read
  read-agrees place k zero h = refl
  read-agrees place k (suc n) h =
      ap₂ {C = List ℕ} ◌∷◌ (h (place k) (sym (yes _ (eq-eqb (place k) (place k) refl) refl)))
      (read-agrees place (suc k) n (λ x e. h x (sym (either-right (eqb x (place k)) (sym e)))))

  -- a descriptor is its 32 bytes
  module _ (at : ℕ) (h : Agree (bytes_from at descriptor_bytes)) where
    byte-agrees : (x : ℕ) → at ≤ x → x < at + descriptor_bytes → get_or m x 0 ≡ get_or m' x 0
    byte-agrees x low high = h x (among-bytes at descriptor_bytes x low high)

    word-agrees : (x : ℕ) → at ≤ x → x + 3 < at + descriptor_bytes → word_at m x ≡ word_at m' x
    word-agrees x low high = λ i. joined (byte-agrees x low (omega arith) i) (byte-agrees (x + 1) (omega arith) (omega arith) i)
        (byte-agrees (x + 2) (omega arith) (omega arith) i) (byte-agrees (x + 3) (omega arith) (omega arith) i)

    descriptor-agrees : descriptor_at m at ≡ descriptor_at m' at
    descriptor-agrees = λ i. record {
      next = pointer (word-agrees (at + next_at) (omega arith) (omega arith) i);
      source = word-agrees (at + source_at) (omega arith) (omega arith) i;
      destination = word-agrees (at + destination_at) (omega arith) (omega arith) i;
      count = count_of (word-agrees (at + control_at) (omega arith) (omega arith) i);
      stale = bit complete (word-agrees (at + status_at) (omega arith) (omega arith) i);
    }

-- ---- a step changes only what it writes

-- where a transfer's bytes are read and written
abbrev from : Engine → Transfer → ℕ → ℕ
from s = read_place s.settings s.control.keyholeread

abbrev to : Engine → Transfer → ℕ → ℕ
to s = write_place s.settings s.control.keyholewrite

module _ (s : Engine) (m : List ℕ) (x : ℕ) where
  move-changes : (windows : List Window) (t : Transfer) (v : Verdict) → among x (if_okay v (places_from (to s t) t.moved (next_bytes s t))) ≡ false
      → get_or (move_burst_by s t m windows (next_bytes s t) v).memory x 0 ≡ get_or m x 0
  move-changes windows t Okay none =
      let n = next_bytes s t in
      written-changes (to s t) m t.moved (side_read m (from s t) t.moved n) n x (length-read m (from s t) t.moved n) none
  move-changes windows t Slave none = refl
  move-changes windows t Decode none = refl

  update-changes : (o : Outcome) (v : Verdict) → among x (if_okay v (bytes_from (status_place s) 4)) ≡ false → get_or (update_by s o m v).memory x 0 ≡ get_or m x 0
  update-changes o Okay none =
      let at = status_place s in
      let word = bytes_of (status_word_of o) in
      ap (λ (l : List ℕ). get_or l x 0) (sym (stored m at word))
      ∙ written-changes (λ y. y) m at word 4 x refl (ap (among x) (sym (bytes-places at 4)) ∙ none)
  update-changes o Slave none = refl
  update-changes o Decode none = refl

  phase-changes : (windows : List Window) (p : Phase) → among x (writes_by s (length m) windows p) ≡ false → get_or (advance_by s m windows p).memory x 0 ≡ get_or m x 0
  phase-changes windows Idle none = refl
  phase-changes windows Fetch none = refl
  phase-changes windows (Move t) none = move-changes windows t (burst_answer s t (length m) windows (next_bytes s t)) none
  phase-changes windows (Update o) none = update-changes o (group_of (length m) windows (status_place s) 4) none

pub changes-only : ChangesOnly
unfolding writes_of advance_of
changes-only s m windows x none = phase-changes s m x windows s.phase none

-- ---- it depends only on what it reads

-- two that write nothing
unwritten : {r r' : AfterAdvance} → r.event ≡ r'.event → r.engine ≡ r'.engine → Same [] r r'
unwritten e f = record { event = e; engine = f; written = λ x here. absurd (never here) }

-- by what its bytes answer, which is the same since the lengths are
module _ (s : Engine) (m m' : List ℕ) (e : length m ≡ length m') where
  fetch-agrees : (v : Verdict) → Agree m m' (if_okay v (bytes_from s.pointers.current descriptor_bytes)) → fetch_by s m v ≡ fetch_by s m' v
  fetch-agrees Okay h = ap (accept_of s) (descriptor-agrees m m' s.pointers.current h)
  fetch-agrees Slave h = refl
  fetch-agrees Decode h = refl

  move-agrees : (windows : List Window) (t : Transfer) (v : Verdict) → Agree m m' (if_okay v (places_from (from s t) t.moved (next_bytes s t)))
      → Same (if_okay v (places_from (to s t) t.moved (next_bytes s t))) (move_burst_by s t m windows (next_bytes s t) v) (move_burst_by s t m' windows (next_bytes s t) v)
  move-agrees windows t Okay h =
      let n = next_bytes s t in
      let values = side_read m (from s t) t.moved n in
      record {
        event = refl;
        engine = refl;
        written = λ x here.
            written_both (to s t) m m' t.moved values n x e (length-read m (from s t) t.moved n) here
            ∙ ap (λ (l : List ℕ). get_or (side_written m' (to s t) t.moved l) x 0) (read-agrees m m' (from s t) t.moved n h);
      }
  move-agrees windows t Slave h = unwritten (ap (λ (size : ℕ). Fault (fault_at s t size windows (next_bytes s t) Slave) (error_bit_of DmaSlvErr)) e) refl
  move-agrees windows t Decode h = unwritten (ap (λ (size : ℕ). Fault (fault_at s t size windows (next_bytes s t) Decode) (error_bit_of DmaDecErr)) e) refl

  update_agrees : (o : Outcome) (v : Verdict) → Same (if_okay v (bytes_from (status_place s) 4)) (update_by s o m v) (update_by s o m' v)
  update_agrees o Okay =
      let at = status_place s in
      let word = bytes_of (status_word_of o) in
      record {
        event = refl;
        engine = refl;
        written = λ x here.
            ap (λ (l : List ℕ). get_or l x 0) (sym (stored m at word))
            ∙ written_both (λ y. y) m m' at word 4 x e refl (ap (among x) (sym (bytes-places at 4)) ∙ here)
            ∙ ap (λ (l : List ℕ). get_or l x 0) (stored m' at word);
      }
  update_agrees o Slave = unwritten refl refl
  update_agrees o Decode = unwritten refl refl

  phase-agrees : (windows : List Window) (p : Phase) → Agree m m' (reads_by s (length m) windows p)
      → Same (writes_by s (length m) windows p) (advance_by s m windows p) (advance_by s m' windows p)
  phase-agrees windows Idle h = unwritten refl refl
  phase-agrees windows Fetch h =
      let answer : ℕ → Verdict = λ size. group_of size windows s.pointers.current descriptor_bytes in
      let r = fetch-agrees (answer (length m)) h ∙ ap (λ (size : ℕ). fetch_by s m' (answer size)) e in
      unwritten (ap (λ (a : Advanced). a.event) r) (ap (λ (a : Advanced). a.engine) r)
  phase-agrees windows (Move t) h =
      let n = next_bytes s t in
      let answer : ℕ → Verdict = λ size. burst_answer s t size windows n in
      subst (λ (size : ℕ). Same (writes_by s (length m) windows (Move t)) (move_burst_by s t m windows n (answer (length m))) (move_burst_by s t m' windows n (answer size))) e
      (move-agrees windows t (answer (length m)) h)
  phase-agrees windows (Update o) h =
      let answer : ℕ → Verdict = λ size. group_of size windows (status_place s) 4 in
      subst (λ (size : ℕ). Same (writes_by s (length m) windows (Update o)) (update_by s o m (answer (length m))) (update_by s o m' (answer size))) e
      (update_agrees o (answer (length m)))

pub depends-only : DependsOnly
unfolding reads_of writes_of advance_of
depends-only s m m' windows e h = phase-agrees s m m' e windows s.phase h
