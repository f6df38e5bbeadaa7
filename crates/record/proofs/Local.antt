-- Reading looks at the record's own bytes only: where two inputs agree on them, the readings agree.
use mathlib.Core.Path.{◌≡◌, refl, sym, ap, ap₂, ◌∙◌}
use mathlib.Core.Bool.{Bool, true, false}
use mathlib.Core.List.{List}
use Prim.Native.Nat.{ℕ, ◌+◌, ◌≤◌, ◌<◌}
use native.Mathlib.Omega.{arith}
use lib.Dec.{leb}
use lib.ListN.{length, get_or}
use borrow.Author.Tests.{leb-true, leb-false}
use Rattle.kit.specs.Choice.{when}
use Rattle.kit.specs.Word.{joined, word_at, half_at}
use Rattle.record.specs.declared.reading.Body.{Body}
use Rattle.record.specs.declared.reading.Body.TheVariants.{Settings, Memory, Window, Write, Read, Steps}
use Rattle.std.specs.Prelude.{Some, None}
use Rattle.record.specs.Mark.{Kind, CF, C2, MM, SW, WR, RD, ST, AR, WR2, RD2, ST2, unknown, kind_of, of_trace, body_length, header_length, data_allowed}
use Rattle.record.specs.Reading.{Reading, clock_at, for_engine, body_of, data_length, size_of, allowed, reading_as, kind_at}
use Rattle.record.specs.Claims.{shifted}

pub leb-same : (a b c d : ℕ) → (a ≤ b → c ≤ d) → (c ≤ d → a ≤ b) → leb a b ≡ leb c d
leb-same a b c d f g = go (leb a b) refl (leb c d) refl
  where
    go : (t : Bool) → leb a b ≡ t → (u : Bool) → leb c d ≡ u → leb a b ≡ leb c d
    go true p true q = p ∙ sym q
    go false p false q = p ∙ sym q
    go true p false q = absurd (omega (arith, f (leb-true a b p), leb-false c d q))
    go false p true q = absurd (omega (arith, g (leb-true c d q), leb-false a b p))

-- a reading from its parts
abbrev built : Bool → Bool → ℕ → Body → ℕ → Reading
built allows fits sequence body next = when allows (when fits (Some (record { sequence = sequence; body = body }, next)) None) None

shifted-built : (d : ℕ) (a f : Bool) (q : ℕ) (b : Body) (n : ℕ) → built a f q b (d + n) ≡ shifted d (built a f q b n)
shifted-built d true true q b n = refl
shifted-built d true false q b n = refl
shifted-built d false f q b n = refl

-- s from p on and t from q on agree on m bytes
module _ (s t : List ℕ) (p q m : ℕ) (agree : (i : ℕ) → i < m → get_or s (p + i) 0 ≡ get_or t (q + i) 0) where
  byte-same : (a b i : ℕ) → a ≡ p + i → b ≡ q + i → i < m → get_or s a 0 ≡ get_or t b 0
  byte-same a b i e f h = ap (λ (n : ℕ). get_or s n 0) e ∙ agree i h ∙ ap (λ (n : ℕ). get_or t n 0) (sym f)

  pub half-same : (a b i : ℕ) → a ≡ p + i → b ≡ q + i → i + 2 ≤ m → half_at s a ≡ half_at t b
  half-same a b i e f h =
      let e0 = byte-same a b i e f (omega arith) in
      let e1 = byte-same (a + 1) (b + 1) (i + 1) (omega arith) (omega arith) (omega arith) in
      λ j. joined (e0 j) (e1 j) 0 0

  half-field : (i : ℕ) → i + 2 ≤ m → half_at s (p + i) ≡ half_at t (q + i)
  half-field i h = half-same (p + i) (q + i) i refl refl h

  word-field : (i : ℕ) → i + 4 ≤ m → word_at s (p + i) ≡ word_at t (q + i)
  word-field i h =
      let e0 = agree i (omega arith) in
      let e1 = byte-same (p + i + 1) (q + i + 1) (i + 1) (omega arith) (omega arith) (omega arith) in
      let e2 = byte-same (p + i + 2) (q + i + 2) (i + 2) (omega arith) (omega arith) (omega arith) in
      let e3 = byte-same (p + i + 3) (q + i + 3) (i + 3) (omega arith) (omega arith) (omega arith) in
      λ j. joined (e0 j) (e1 j) (e2 j) (e3 j)

  pub kind-same : (two : Bool) → 2 ≤ m → kind_at s p two ≡ kind_at t q two
  kind-same two h = ap (λ (n : ℕ). of_trace two (kind_of n)) (half-same p q 0 (omega arith) (omega arith) h)

  pub data-same : (k : Kind) → header_length + body_length k ≤ m → data_length s p k ≡ data_length t q k
  data-same CF h = refl
  data-same C2 h = refl
  data-same MM h = half-field 10 h
  data-same SW h = refl
  data-same WR h = refl
  data-same RD h = refl
  data-same ST h = refl
  data-same AR h = refl
  data-same WR2 h = refl
  data-same RD2 h = refl
  data-same ST2 h = refl
  data-same unknown h = refl

  allowed_same : (first : Bool) (k : Kind) → header_length + body_length k ≤ m → allowed s p first k ≡ allowed t q first k
  allowed_same first CF h = refl
  allowed_same first C2 h = refl
  allowed_same first MM h = ap data_allowed (half-field 10 h)
  allowed_same first SW h = refl
  allowed_same first WR h = refl
  allowed_same first RD h = refl
  allowed_same first ST h = refl
  allowed_same first AR h = refl
  allowed_same first WR2 h = refl
  allowed_same first RD2 h = refl
  allowed_same first ST2 h = refl
  allowed_same first unknown h = refl

  clock-same : 22 ≤ m → (bits : ℕ) → clock_at s p bits ≡ clock_at t q bits
  clock-same h bits =
      let address = word-field 18 (omega arith) in
      let length = agree 7 (omega arith) in
      let size = agree 8 (omega arith) in
      let burst = agree 9 (omega arith) in
      let cache = agree 10 (omega arith) in
      let prot = agree 11 (omega arith) in
      let qos = agree 12 (omega arith) in
      let region = agree 13 (omega arith) in
      let id = word-field 14 (omega arith) in
      λ j. record {
        aresetn = (clock_at s p bits).aresetn;
        valid = (clock_at s p bits).valid;
        ready = (clock_at s p bits).ready;
        address = address j;
        length = length j;
        size = size j;
        burst = burst j;
        cache = cache j;
        prot = prot j;
        qos = qos j;
        region = region j;
        id = id j;
      }

  body_same : (k : Kind) → header_length + body_length k ≤ m → body_of s p k ≡ body_of t q k
  body_same CF h = ap₂ (Settings false) (half-field 6 (omega arith)) (half-field 8 (omega arith))
  body_same C2 h = ap₂ (Settings true) (half-field 6 (omega arith)) (half-field 8 (omega arith))
  body_same MM h = ap₂ Memory (word-field 6 (omega arith)) (half-field 10 (omega arith))
  body_same SW h = ap₂ Window (word-field 6 (omega arith)) (word-field 10 (omega arith))
  body_same WR h = ap₂ Write (half-field 6 (omega arith)) (word-field 8 (omega arith))
  body_same RD h = ap Read (half-field 6 (omega arith))
  body_same ST h = ap Steps (half-field 6 (omega arith))
  body_same AR h =
      let bits = agree 6 (omega arith) in
      (λ j. Body.Clock (bits j) (clock_at s p (bits j))) ∙ ap (λ c. Body.Clock (get_or t (q + 6) 0) c) (clock-same h (get_or t (q + 6) 0))
  body_same WR2 h = ap₂ for_engine (agree 6 (omega arith)) (ap₂ Write (half-field 7 (omega arith)) (word-field 9 (omega arith)))
  body_same RD2 h = ap₂ for_engine (agree 6 (omega arith)) (ap Read (half-field 7 (omega arith)))
  body_same ST2 h = ap₂ for_engine (agree 6 (omega arith)) (ap Steps (half-field 7 (omega arith)))
  body_same unknown h = refl

  -- the same reading, d places on, where an allowed record is whole in both or in neither
  pub reading-same : (d : ℕ) → p ≡ d + q → (first : Bool) (k : Kind) → header_length + body_length k ≤ m
      → (allowed s p first k ≡ true → leb (p + size_of s p k) (length s) ≡ leb (q + size_of t q k) (length t))
      → reading_as s p first k ≡ shifted d (reading_as t q first k)
  reading-same d e first k h whole = go (allowed s p first k) refl ∙ shifted-built d (allowed t q first k) (leb (q + size_of t q k) (length t)) (word_at t (q + 2)) (body_of t q k) (q + size_of t q k)
    where
      next : p + size_of s p k ≡ d + (q + size_of t q k)
      next = omega (arith, data-same k h)

      go : (a : Bool) → allowed s p first k ≡ a
          → reading_as s p first k ≡ built (allowed t q first k) (leb (q + size_of t q k) (length t)) (word_at t (q + 2)) (body_of t q k) (d + (q + size_of t q k))
      go true a =
          let allows = allowed_same first k h in
          let fits = whole a in
          let sequence = word-field 2 (omega arith) in
          let body = body_same k h in
          λ j. built (allows j) (fits j) (sequence j) (body j) (next j)
      go false a =
          ap (λ (b : Bool). built b (leb (p + size_of s p k) (length s)) (word_at s (p + 2)) (body_of s p k) (p + size_of s p k)) a
          ∙ ap (λ (b : Bool). built b (leb (q + size_of t q k) (length t)) (word_at t (q + 2)) (body_of t q k) (d + (q + size_of t q k))) (sym a ∙ allowed_same first k h)
