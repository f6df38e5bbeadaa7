-- What follows by `follows_of` is a record that reading finds.
use mathlib.Core.Path.{◌≡◌, refl, sym, ap, ◌∙◌}
use mathlib.Core.Bool.{Bool, true, false}
use mathlib.Core.List.{List}
use Prim.Native.Nat.{ℕ, ◌+◌, ◌≤◌, ◌<◌}
use lib.Dec.{eqb, leb, ltb}
use lib.ListN.{length}
use borrow.Author.Tests.{eqb-true, leb-true, ltb-true}
use Rattle.kit.specs.Choice.{both}
use Rattle.kit.specs.Word.{word_at, half_at}
use Rattle.kit.proofs.Choice.{both_left, both_right}
use Rattle.record.specs.Mark.{WR, AR, kind_of, letters}
use Rattle.record.specs.Reading.{body_of, found_of, kind_at, reading_of}
use Rattle.record.specs.Follows.{follows_of}
use Rattle.record.proofs.Marks.{kind-by, in_both}
use Rattle.record.proofs.Readings.{found, of-kind}

module _ (s : List ℕ) (at mark size before : ℕ) where
  module _ (f : follows_of s at mark size before ≡ true) where
    rest : both (eqb (half_at s at) mark) (ltb before (word_at s (at + 2))) ≡ true
    rest = both_right (leb (at + size) (length s)) _ f

    pub whole : at + size ≤ length s
    whole = leb-true (at + size) (length s) (both_left (leb (at + size) (length s)) _ f)

    pub rises : before < word_at s (at + 2)
    rises = ltb-true before (word_at s (at + 2)) (both_right (eqb (half_at s at) mark) _ rest)

    pub marked : half_at s at ≡ mark
    marked = eqb-true (half_at s at) mark (both_left (eqb (half_at s at) mark) _ rest)

-- an AR record is one in a trace of two engines too
pub clock-kind : (s : List ℕ) (at : ℕ) (two : Bool) → half_at s at ≡ letters 65 82 → kind_at s at two ≡ AR
unfolding kind_of
clock-kind s at two e = kind-by two e ∙ in_both AR refl two

-- the record that follows an AR, and in a trace of one engine a WR
pub clock-follows : (s : List ℕ) (at before : ℕ) (first two : Bool) → follows_of s at (letters 65 82) 22 before ≡ true
    → reading_of s at first two ≡ found_of s at 22 (body_of s at AR)
unfolding kind_of
clock-follows s at before first two f =
    sym (of-kind s at first two (clock-kind s at two (marked s at (letters 65 82) 22 before f)) (found s at first AR refl (whole s at (letters 65 82) 22 before f) refl))

pub write-follows : (s : List ℕ) (at before : ℕ) (first : Bool) → follows_of s at (letters 87 82) 12 before ≡ true
    → reading_of s at first false ≡ found_of s at 12 (body_of s at WR)
unfolding kind_of
write-follows s at before first f =
    sym (of-kind s at first false (ap kind_of (marked s at (letters 87 82) 12 before f)) (found s at first WR refl (whole s at (letters 87 82) 12 before f) refl))
