-- Laws of the words of a line, each by its fourteen cases.
use mathlib.Core.Path.{◌≡◌, refl, sym, ap, ap₂, ◌∙◌}
use mathlib.Core.Bool.{true}
use mathlib.Core.List.{List, [], ◌∷◌, ◌++◌}
use Prim.Native.Nat.{ℕ, ◌+◌, ◌≤◌}
use native.Mathlib.Omega.{arith}
use lib.Dec.{leb}
use lib.ListN.{length, length-append}
use lib.Seq.{sets}
use Rattle.kit.specs.Word.{word_at, bytes_of}
use Rattle.kit.proofs.Lists.{each}
use Rattle.kit.proofs.Stores.{sets-append}
use Rattle.listing.specs.declared.word.Word.{Word}
use Rattle.listing.specs.declared.word.Word.TheVariants.{Set, Memory, Window, Write, Read, NoRead, Bus, Fetch, Move, Fault, Update, Halt, Stop, Bad}
use Rattle.listing.specs.Word.{blank, word_of, spaced_of, eight_of}

-- what is computed of each word: two words of four bytes hold its eight, it has at most six letters, and each is a small one
record Computed (w : Word) : Type 0 where
  halves : bytes_of (word_at (eight_of w) 0) ++ bytes_of (word_at (eight_of w) 4) ≡ eight_of w
  most : length (word_of w) ≤ 6
  small : each (leb 97) (word_of w) ≡ true

computed : (w : Word) → Computed w
computed Set = record { halves = refl; most = omega arith; small = refl }
computed Memory = record { halves = refl; most = omega arith; small = refl }
computed Window = record { halves = refl; most = omega arith; small = refl }
computed Write = record { halves = refl; most = omega arith; small = refl }
computed Read = record { halves = refl; most = omega arith; small = refl }
computed NoRead = record { halves = refl; most = omega arith; small = refl }
computed Bus = record { halves = refl; most = omega arith; small = refl }
computed Fetch = record { halves = refl; most = omega arith; small = refl }
computed Move = record { halves = refl; most = omega arith; small = refl }
computed Fault = record { halves = refl; most = omega arith; small = refl }
computed Update = record { halves = refl; most = omega arith; small = refl }
computed Halt = record { halves = refl; most = omega arith; small = refl }
computed Stop = record { halves = refl; most = omega arith; small = refl }
computed Bad = record { halves = refl; most = omega arith; small = refl }

pub word-put : (w : Word) (m : List ℕ) (at : ℕ) {m₁ m₂ : List ℕ} {a b : ℕ} → a ≡ word_at (eight_of w) 0 → b ≡ word_at (eight_of w) 4
    → m₁ ≡ sets m at (bytes_of a) → m₂ ≡ sets m₁ (at + 4) (bytes_of b) → m₂ ≡ sets m at (eight_of w)
word-put w m at {m₁} {m₂} {a} {b} e f p s =
    s
    ∙ ap (λ (l : List ℕ). sets l (at + 4) (bytes_of b)) p
    ∙ sym (sets-append m at (bytes_of a) (bytes_of b))
    ∙ ap (sets m at) (ap₂ (λ (x y : ℕ). bytes_of x ++ bytes_of y) e f ∙ (computed w).halves)

-- a word has at most six letters: there is room for seven
pub spaced_most : (w : Word) → length (spaced_of w) ≤ 7
spaced_most w = omega (arith, (computed w).most, length-append (word_of w) (blank ∷ []))

-- every letter is a small one
pub letters-small : (w : Word) → each (leb 97) (word_of w) ≡ true
letters-small w = (computed w).small
