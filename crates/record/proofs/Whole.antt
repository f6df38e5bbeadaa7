-- What a record found says: its kind is allowed, it is whole, and it is the record of that kind.
use mathlib.Core.Path.{◌≡◌, refl}
use mathlib.Core.Bool.{Bool, true, false}
use mathlib.Core.List.{List}
use Prim.Native.Nat.{ℕ, ◌+◌, ◌≤◌}
use native.Mathlib.Omega.{arith}
use lib.Dec.{leb}
use lib.ListN.{length}
use borrow.Author.Tests.{leb-true}
use Rattle.kit.specs.Choice.{when}
use Rattle.kit.specs.Word.{word_at}
use Rattle.record.specs.declared.reading.Record.{Record}
use Rattle.std.specs.Prelude.{Some, None}
use Rattle.record.specs.Reading.{body_of, size_of, allowed, found_of, kind_at, reading_of}

pub record Whole (s : List ℕ) (at : ℕ) (first two : Bool) (r : Record) (n : ℕ) : Type 0 where
  pub allows : allowed s at first (kind_at s at two) ≡ true
  pub fits : at + size_of s at (kind_at s at two) ≤ length s
  pub sequence-is : r.sequence ≡ word_at s (at + 2)
  pub body_is : r.body ≡ body_of s at (kind_at s at two)
  pub next-is : n ≡ at + size_of s at (kind_at s at two)

pub impossible : ◌≡◌ {A = ℕ} 0 1 → ⊥
impossible e = omega arith

same : {a b : Record × ℕ} → Some a ≡ Some b → b ≡ a
same e = cc

not-refused : {a : Record × ℕ} → None ≡ Some a → ⊥
not-refused e = impossible (cc)

pub whole : (s : List ℕ) (at : ℕ) (first two : Bool) (r : Record) (n : ℕ) → reading_of s at first two ≡ Some (r, n) → Whole s at first two r n
unfolding reading_of
whole s at first two r n = go (allowed s at first (kind_at s at two)) refl (leb (at + size_of s at (kind_at s at two)) (length s)) refl
  where
    go : (t : Bool) → allowed s at first (kind_at s at two) ≡ t → (u : Bool) → leb (at + size_of s at (kind_at s at two)) (length s) ≡ u
        → when t (when u (found_of s at (size_of s at (kind_at s at two)) (body_of s at (kind_at s at two))) None) None ≡ Some (r, n) → Whole s at first two r n
    go true p true q e = record {
      allows = p;
      fits = leb-true _ _ q;
      sequence-is = λ i. (same e i).0.sequence;
      body_is = λ i. (same e i).0.body;
      next-is = λ i. (same e i).1;
    }
    go true p false q e = absurd (not-refused e)
    go false p u q e = absurd (not-refused e)
