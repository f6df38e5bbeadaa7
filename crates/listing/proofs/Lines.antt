-- Laws of a line and of the header: how their puts are made, how long a line is, and that its only line feed is its last byte.
use mathlib.Core.Path.{◌≡◌, refl, sym, ap, ap₂, subst, ◌∙◌}
use mathlib.Core.Bool.{true}
use mathlib.Core.List.{List, [], ◌∷◌, ◌++◌, append_assoc}
use Prim.Native.Nat.{ℕ, ◌+◌, ◌-◌, ◌^◌, ◌≤◌, ◌<◌}
use native.Mathlib.Omega.{arith}
use lib.Dec.{leb}
use lib.ListN.{length, take, drop, length-append, length-drop}
use lib.Seq.{sets, sets-eq, drop-drop}
use borrow.Rule.Slice.PartMut.{put_mid}
use borrow.Author.Tests.{leb-true}
use Rattle.kit.proofs.Choice.{both_left, both_right}
use Rattle.kit.proofs.Lists.{each}
use Rattle.digits.specs.Decimal.{digits_of, Every}
use Rattle.digits.specs.Puts.{Puts}
use Rattle.digits.proofs.Sets.{sets-cover}
use Rattle.digits.proofs.Puts.{puts_then}
use Rattle.digits.proofs.Digits.{every_append, digits-each, digits-some, digits-most}
use Rattle.listing.specs.declared.line.Line.{Line}
use Rattle.listing.specs.Word.{blank, word_of, spaced_of, zeros_of, eight_of}
use Rattle.listing.specs.Line.{line_feed, line_of, header_of}
use Rattle.listing.proofs.Words.{spaced_most, letters-small}

-- ---- how a line is put

-- a number and the byte that closes it
abbrev pub closed_of : ℕ → ℕ → List ℕ
closed_of v e = digits_of v ++ (e ∷ [])

pub closed-length : (v e : ℕ) → length (closed_of v e) ≡ length (digits_of v) + 1
closed-length v e = length-append (digits_of v) (e ∷ [])

-- what follows the word and its blank
abbrev rest_of : Line → List ℕ
rest_of l = closed_of l.first blank ++ closed_of l.second line_feed

line-parts : (l : Line) → closed_of l.sequence blank ++ (spaced_of l.word ++ rest_of l) ≡ line_of l
unfolding line_of
line-parts l = simp append_assoc

rest-length : (l : Line) → length (rest_of l) ≡ length (digits_of l.first) + length (digits_of l.second) + 2
rest-length l = simp length-append (omega arith)

-- the zeros after a word are no more than the bytes that follow it
zeros-covered : (l : Line) → length (zeros_of l.word) ≤ length (rest_of l)
zeros-covered l =
    omega (arith, length-drop {A = ℕ} (length (word_of l.word) - 3) (0 ∷ 0 ∷ 0 ∷ 0 ∷ []), rest-length l, digits-some l.first, digits-some l.second)

pub line-put : (l : Line) {m m₁ m₂ m₃ m₄ : List ℕ} {at a b c d : ℕ} → Puts m m₁ at a (closed_of l.sequence blank)
    → b ≡ a + length (spaced_of l.word) → m₂ ≡ sets m₁ a (eight_of l.word) → Puts m₂ m₃ b c (closed_of l.first blank)
    → Puts m₃ m₄ c d (closed_of l.second line_feed) → Puts m m₄ at d (line_of l)
line-put l {m} {m₁} {m₂} {m₃} {m₄} {at} {a} {b} {c} {d} p e s q r =
    let rest : Puts m₂ m₄ b d (rest_of l) = puts_then (closed_of l.second line_feed) r.past q r.stored in
    subst (Puts m m₄ at d) (line-parts l)
    (puts_then (spaced_of l.word ++ rest_of l)
    (omega (arith, rest.past, e, length-append (spaced_of l.word) (rest_of l)))
    p
    (rest.stored
    ∙ ap₂ (λ (x : List ℕ) (i : ℕ). sets x i (rest_of l)) s e
    ∙ sets-cover m₁ a (spaced_of l.word) (zeros_of l.word) (rest_of l) (zeros-covered l)))

-- ---- how the header is put

pub header-put : (m : List ℕ) (at : ℕ) (put : List ℕ) → at + 23 ≤ length m
    → put ≡ header_of → Puts m (put_mid at (at + 23 - at) m put) at (at + 23) header_of
unfolding header_of
header-put m at put fits whole =
    let width : at + 23 - at ≡ 23 = omega arith in
    record {
      past = refl;
      stored =
          ap₂ (λ (n : ℕ) (l : List ℕ). put_mid at n m l) width whole
          ∙ ap (λ (l : List ℕ). take at m ++ (header_of ++ l)) (drop-drop 23 at m)
          ∙ sym (append_assoc (take at m) header_of (drop (at + 23) m))
          ∙ sym (sets-eq header_of m at fits);
    }

-- ---- how long a line is

line-length : (l : Line) → length (line_of l)
    ≡ length (digits_of l.sequence) + length (word_of l.word) + length (digits_of l.first) + length (digits_of l.second) + 4
unfolding line_of
line-length l = simp length-append (omega arith)

pub line-some : (l : Line) → 7 ≤ length (line_of l)
line-some l = omega (arith, line-length l, digits-some l.sequence, digits-some l.first, digits-some l.second)

-- the most bytes of a number and the byte that closes it
pub closed_short : (v e : ℕ) → v < 2 ^ 32 → length (digits_of v ++ (e ∷ [])) ≤ 11
closed_short v e h = omega (arith, closed-length v e, digits-most 9 v (omega arith))

pub closed_long : (v e : ℕ) → v < 2 ^ 64 → length (digits_of v ++ (e ∷ [])) ≤ 21
closed_long v e h = omega (arith, closed-length v e, digits-most 19 v (omega arith))

pub line-most : (l : Line) → l.sequence < 2 ^ 32 → l.first < 2 ^ 64 → l.second < 2 ^ 64 → length (line_of l) ≤ 60
line-most l s f g =
    omega (
      arith,
      line-length l,
      digits-most 9 l.sequence (omega arith),
      digits-most 19 l.first (omega arith),
      digits-most 19 l.second (omega arith),
      spaced_most l.word,
      length-append (word_of l.word) (blank ∷ []),
    )

-- ---- one line feed, at the end

-- a line without its line feed
abbrev pub body_of : Line → List ℕ
body_of l =
    digits_of l.sequence
    ++ (blank ∷ word_of l.word ++ (blank ∷ digits_of l.first ++ (blank ∷ digits_of l.second)))

pub line-ends : (l : Line) → line_of l ≡ body_of l ++ (line_feed ∷ [])
unfolding line_of
line-ends l = simp append_assoc

-- not a control character
abbrev pub Printed : ℕ → Type 0
Printed x = blank ≤ x

letters-printed : (xs : List ℕ) → each (leb 97) xs ≡ true → Every Printed xs
letters-printed [] h = tt
letters-printed (x ∷ xs) h =
    let letter : 97 ≤ x = leb-true 97 x (both_left (leb 97 x) (each (leb 97) xs) h) in
    (omega arith, letters-printed xs (both_right (leb 97 x) (each (leb 97) xs) h))

digits-printed : (xs : List ℕ) → Every (λ (d : ℕ). (48 ≤ d) × (d ≤ 57)) xs → Every Printed xs
digits-printed [] h = tt
digits-printed (x ∷ xs) h = let low : 48 ≤ x = h.0.0 in (omega arith, digits-printed xs h.1)

pub body-printed : (l : Line) → Every Printed (body_of l)
body-printed l =
    every_append Printed (digits_of l.sequence) _ (digits-printed (digits_of l.sequence) (digits-each l.sequence)) (
      omega arith,
      every_append Printed (word_of l.word) _ (letters-printed (word_of l.word) (letters-small l.word)) (
        omega arith,
        every_append Printed (digits_of l.first) _ (digits-printed (digits_of l.first) (digits-each l.first))
            (omega arith, digits-printed (digits_of l.second) (digits-each l.second)),
      ),
    )
