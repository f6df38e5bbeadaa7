-- Laws of `reading_as` and `reading_of`: a result is the reading once it is known what was allowed and whole.
use mathlib.Core.Path.{◌≡◌, refl, sym, subst}
use mathlib.Core.Bool.{Bool, true}
use mathlib.Core.List.{List}
use Prim.Native.Nat.{ℕ, ◌+◌, ◌≤◌, ◌<◌}
use lib.ListN.{length}
use borrow.Author.Tests.{le-leb, lt-leb}
use Rattle.kit.proofs.Choice.{yes, no, cases}
use Rattle.std.specs.Prelude.{None}
use Rattle.record.specs.Mark.{Kind}
use Rattle.record.specs.Reading.{Reading, body_of, size_of, allowed, found_of, reading_as, kind_at, reading_of}

module _ (s : List ℕ) (at : ℕ) (first : Bool) where
  -- allowed and whole
  pub found : (k : Kind) {r : Reading} → allowed s at first k ≡ true → at + size_of s at k ≤ length s → r ≡ found_of s at (size_of s at k) (body_of s at k)
      → r ≡ reading_as s at first k
  found k a h e = yes _ a (yes _ (le-leb _ _ h) e)

  pub short : (k : Kind) → length s < at + size_of s at k → None ≡ reading_as s at first k
  short k h = cases (λ (r : Reading). None ≡ r) (allowed s at first k) (λ _. no _ (lt-leb _ _ h) refl) (λ _. refl)

  -- the reading is the one of the kind that the mark names
  pub of-kind : (two : Bool) {k : Kind} {r : Reading} → kind_at s at two ≡ k → r ≡ reading_as s at first k → r ≡ reading_of s at first two
  unfolding reading_of
  of-kind two {r = r} e p = subst (λ (k : Kind). r ≡ reading_as s at first k) (sym e) p
