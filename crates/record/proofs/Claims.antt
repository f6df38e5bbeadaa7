-- The claims of specs/Claims.antt.
use mathlib.Core.Path.{◌≡◌, refl, sym, ap, subst, ◌∙◌}
use mathlib.Core.Bool.{Bool, true}
use mathlib.Core.List.{List, ◌++◌}
use Prim.Native.Nat.{ℕ, ◌+◌, ◌^◌, ◌≤◌, ◌<◌}
use native.Mathlib.Omega.{arith}
use lib.Dec.{leb}
use lib.ListN.{length, get_or, drop, length-append, length-drop, get_or-append}
use lib.Seq.{get_or-drop}
use Rattle.kit.specs.Word.{word_at, half_at}
use Rattle.kit.proofs.Choice.{cases, never}
use Rattle.record.specs.declared.reading.Body.{Body}
use Rattle.record.specs.declared.reading.Body.TheVariants.{Memory, Astray}
use Rattle.std.specs.Prelude.{Some, None}
use Rattle.record.specs.Mark.{Kind, CF, C2, MM, SW, WR, RD, ST, AR, WR2, RD2, ST2, unknown, header_length, body_length, most_data}
use Rattle.record.specs.Reading.{Reading, engine_there, for_engine, body_of, size_of, allowed, kind_at, reading_as, reading_of}
use Rattle.record.specs.Claims.{longest, Bytes, Within, shifted, Claims}
use Rattle.record.proofs.Marks.{data-bounds, body-most, size-most}
use Rattle.record.proofs.Whole.{whole, impossible}
use Rattle.record.proofs.Local.{leb-same, kind-same, data-same, reading-same}

-- what holds of a body and of one that is astray holds of a body for any engine
for-engine : (P : Body → Type 0) (n : ℕ) {b : Body} → P b → P Astray → P (for_engine n b)
for-engine P n there astray = cases P (engine_there n) (λ _. there) (λ _. astray)

-- a body that is MM's is of an MM record
memory-kind : (s : List ℕ) (at : ℕ) (first : Bool) (k : Kind) (address size : ℕ) → allowed s at first k ≡ true → body_of s at k ≡ Memory address size
    → (size_of s at k ≡ 12 + size) × (1 ≤ size) × (size ≤ most_data)
memory-kind s at first CF address size p e = absurd (impossible (cc))
memory-kind s at first C2 address size p e = absurd (impossible (cc))
memory-kind s at first MM address size p e =
    let same : half_at s (at + 10) ≡ size = cc in
    let bounds = data-bounds (half_at s (at + 10)) p in
    (ap (λ (n : ℕ). 12 + n) same, subst (λ (n : ℕ). 1 ≤ n) same bounds.0, subst (λ (n : ℕ). n ≤ most_data) same bounds.1)
memory-kind s at first SW address size p e = absurd (impossible (cc))
memory-kind s at first WR address size p e = absurd (impossible (cc))
memory-kind s at first RD address size p e = absurd (impossible (cc))
memory-kind s at first ST address size p e = absurd (impossible (cc))
memory-kind s at first AR address size p e = absurd (impossible (cc))
memory-kind s at first WR2 address size p e = absurd (for-engine (λ (b : Body). b ≡ Memory address size → ⊥) (get_or s (at + 6) 0) (λ z. impossible (cc)) (λ z. impossible (cc)) e)
memory-kind s at first RD2 address size p e = absurd (for-engine (λ (b : Body). b ≡ Memory address size → ⊥) (get_or s (at + 6) 0) (λ z. impossible (cc)) (λ z. impossible (cc)) e)
memory-kind s at first ST2 address size p e = absurd (for-engine (λ (b : Body). b ≡ Memory address size → ⊥) (get_or s (at + 6) 0) (λ z. impossible (cc)) (λ z. impossible (cc)) e)
memory-kind s at first unknown address size p e = absurd (never p)

-- ---- ranges

module _ (s : List ℕ) (bytes : Bytes s) where
  half-below : (i : ℕ) → half_at s i < 65536
  half-below i = omega (arith, bytes i, bytes (i + 1))

  word_below : (i : ℕ) → word_at s i < 2 ^ 32
  word_below i = omega (arith, bytes i, bytes (i + 1), bytes (i + 2), bytes (i + 3))

  body-within : (at : ℕ) (k : Kind) → Within (body_of s at k)
  body-within at CF = (half-below (at + 6), half-below (at + 8))
  body-within at C2 = (half-below (at + 6), half-below (at + 8))
  body-within at MM = (word_below (at + 6), half-below (at + 10))
  body-within at SW = (word_below (at + 6), word_below (at + 10))
  body-within at WR = (half-below (at + 6), word_below (at + 8))
  body-within at RD = half-below (at + 6)
  body-within at ST = half-below (at + 6)
  body-within at AR = record {
    bits-byte = bytes (at + 6);
    length-byte = bytes (at + 7);
    size-byte = bytes (at + 8);
    burst-byte = bytes (at + 9);
    cache-byte = bytes (at + 10);
    prot-byte = bytes (at + 11);
    qos-byte = bytes (at + 12);
    region-byte = bytes (at + 13);
    id-word = word_below (at + 14);
    address_word = word_below (at + 18);
  }
  body-within at WR2 = for-engine Within (get_or s (at + 6) 0) (half-below (at + 7), word_below (at + 9)) tt
  body-within at RD2 = for-engine Within (get_or s (at + 6) 0) (half-below (at + 7)) tt
  body-within at ST2 = for-engine Within (get_or s (at + 6) 0) (half-below (at + 7)) tt
  body-within at unknown = omega arith

-- ---- places

shifted-zero : (r : Reading) → shifted 0 r ≡ r
shifted-zero (Some (r, n)) =
    let e : 0 + n ≡ n = omega arith in
    ap (λ (m : ℕ). Some (r, m)) e
shifted-zero None = refl

module _ (s t : List ℕ) (p q m : ℕ) (agree : (i : ℕ) → i < m → get_or s (p + i) 0 ≡ get_or t (q + i) 0) (first two : Bool) where
  -- the readings of the kinds that both marks name
  moved : (d : ℕ) → 2 ≤ m → reading_as s p first (kind_at s p two) ≡ shifted d (reading_as t q first (kind_at s p two)) → reading_of s p first two ≡ shifted d (reading_of t q first two)
  unfolding reading_of
  moved d h e = e ∙ ap (λ (k : Kind). shifted d (reading_as t q first k)) (kind-same s t p q m agree two h)

-- bytes after the m that hold the record change nothing
module _ (s more : List ℕ) (at m : ℕ) (first two : Bool) (room : at + m ≤ length s) where
  appended-agree : (i : ℕ) → i < m → get_or s (at + i) 0 ≡ get_or (s ++ more) (at + i) 0
  appended-agree i l = sym (get_or-append s more 0 (at + i) (omega arith))

  appended-fits : (k : Kind) → header_length + body_length k ≤ m → size_of s at k ≤ m
      → leb (at + size_of s at k) (length s) ≡ leb (at + size_of (s ++ more) at k) (length (s ++ more))
  appended-fits k b e =
      leb-same (at + size_of s at k) (length s) (at + size_of (s ++ more) at k) (length (s ++ more))
      (λ l. omega (arith, data-same s (s ++ more) at at m appended-agree k b, length-append s more)) (λ l. omega arith)

  kept : header_length + body_length (kind_at s at two) ≤ m → (allowed s at first (kind_at s at two) ≡ true → size_of s at (kind_at s at two) ≤ m)
      → reading_of (s ++ more) at first two ≡ reading_of s at first two
  kept b enough =
      sym
      (moved s (s ++ more) at at m appended-agree first two 0 (omega arith)
      (reading-same s (s ++ more) at at m appended-agree 0 (omega arith) first (kind_at s at two) b (λ a. appended-fits (kind_at s at two) b (enough a)))
      ∙ shifted-zero (reading_of (s ++ more) at first two))

-- reading looks at no more than 22 bytes
module _ (s : List ℕ) (at : ℕ) (first two : Bool) (room : at ≤ length s) where
  dropped-agree : (i : ℕ) → i < 22 → get_or s (at + i) 0 ≡ get_or (drop at s) (0 + i) 0
  dropped-agree i l =
      let e : i ≡ 0 + i = omega arith in
      sym (get_or-drop at s i 0) ∙ ap (λ (n : ℕ). get_or (drop at s) n 0) e

  header-most : (k : Kind) → header_length + body_length k ≤ 22
  header-most k = omega (arith, body-most k)

  dropped-fits : (k : Kind) → leb (at + size_of s at k) (length s) ≡ leb (0 + size_of (drop at s) 0 k) (length (drop at s))
  dropped-fits k =
      let d = data-same s (drop at s) at 0 22 dropped-agree k (header-most k) in
      leb-same (at + size_of s at k) (length s) (0 + size_of (drop at s) 0 k) (length (drop at s))
      (λ l. omega (arith, length-drop at s)) (λ l. omega (arith, length-drop at s))

  dropped-same : reading_of s at first two ≡ shifted at (reading_of (drop at s) 0 first two)
  dropped-same =
      moved s (drop at s) at 0 22 dropped-agree first two at (omega arith)
      (reading-same s (drop at s) at 0 22 dropped-agree at (omega arith) first (kind_at s at two) (header-most (kind_at s at two)) (λ _. dropped-fits (kind_at s at two)))

pub claims : Claims
claims = record {
  inside = λ s at first two r n e.
      let w = whole s at first two r n e in
      (omega arith, omega arith, omega (arith, size-most s at first (kind_at s at two) w.allows));
  memory = λ s at first two r n address size e b.
      let w = whole s at first two r n e in
      let m = memory-kind s at first (kind_at s at two) address size w.allows (sym w.body_is ∙ b) in
      (omega arith, m.1, m.2);
  ranges = λ s at first two r n bytes e.
      let w = whole s at first two r n e in (
        subst (λ (x : ℕ). x < 2 ^ 32) (sym w.sequence-is) (word_below s bytes (at + 2)),
        subst Within (sym w.body_is) (body-within s bytes at (kind_at s at two)),
      );
  appended = λ s more at first two r n e.
      let w = whole s at first two r n e in
      kept s more at (size_of s at (kind_at s at two)) first two w.fits (omega arith) (λ a. omega arith) ∙ e;
  settled = λ s more at first two room.
      kept s more at longest first two room (omega (arith, body-most (kind_at s at two))) (size-most s at first (kind_at s at two));
  dropped = dropped-same;
  unique = λ s at first two r t e f. e ∙ sym f;
}
