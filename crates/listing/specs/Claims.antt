-- RULES.md, "Trace and listing": what a reader of a listing relies on. Proved in proofs/Claims.antt.
use Rattle.std.specs.Prelude.{ℕ, ◌+◌, ◌^◌, ◌≤◌, ◌<◌, ◌≡◌, List, [], ◌∷◌, ◌++◌, length}
use Rattle.std.proofs.lemmas.List.Edits.{sets}
use Rattle.digits.specs.Decimal.{Every}
use Rattle.digits.specs.Puts.{Puts}
use Rattle.listing.specs.declared.line.Line.{Line}
use Rattle.listing.specs.declared.word.Word.{Word}
use Rattle.listing.specs.Word.{blank, spaced_of, eight_of}
use Rattle.listing.specs.Line.{line_feed, line_of, header_of}

-- a text whose only control character is the line feed at its end
pub record OneLine (text : List ℕ) : Type 0 where
  pub body : List ℕ
  pub printed : Every (λ (x : ℕ). blank ≤ x) body
  pub ends : text ≡ body ++ (line_feed ∷ [])

-- a line is one line, of at most 60 bytes
pub record Claims : Type 0 where
  pub one_line : (l : Line) → OneLine (line_of l)
  pub short : (l : Line) → l.sequence < 2 ^ 32 → l.first < 2 ^ 64 → l.second < 2 ^ 64 → length (line_of l) ≤ 60

-- two results that one contract allows are equal
pub record Unique : Type 0 where
  pub put_word : (m : List ℕ) (at : ℕ) (w : Word) (r r' : ℕ) (out out' : List ℕ)
      → (r ≡ at + length (spaced_of w)) × (out ≡ sets m at (eight_of w))
      → (r' ≡ at + length (spaced_of w)) × (out' ≡ sets m at (eight_of w)) → (r ≡ r') × (out ≡ out')
  pub put-line : (m : List ℕ) (at : ℕ) (l : Line) (r r' : ℕ) (out out' : List ℕ) → Puts m out at r (line_of l) → Puts m out' at r' (line_of l)
      → (r ≡ r') × (out ≡ out')
  pub put-header : (m : List ℕ) (at r r' : ℕ) (out out' : List ℕ) → Puts m out at r header_of → Puts m out' at r' header_of
      → (r ≡ r') × (out ≡ out')
