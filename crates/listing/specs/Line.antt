-- RULES.md, "Trace and listing": a line, and the header line, in ASCII.
use Rattle.std.specs.Prelude.{ℕ, List, [], ◌∷◌, ◌++◌}
use Rattle.digits.specs.Decimal.{digits_of}
use Rattle.listing.specs.declared.line.Line.{Line}
use Rattle.listing.specs.Word.{blank, word_of}

abbrev pub line_feed : ℕ
line_feed = 10

-- sequence, word and two numbers, a blank between each two, and a line feed
unfoldable pub line_of : Line → List ℕ
line_of l =
    digits_of l.sequence
    ++ (blank ∷ word_of l.word ++ (blank ∷ digits_of l.first ++ (blank ∷ digits_of l.second ++ (line_feed ∷ []))))

-- seq event first second
unfoldable pub header_of : List ℕ
header_of =
    115 ∷ 101 ∷ 113 ∷ blank
    ∷ 101 ∷ 118 ∷ 101 ∷ 110 ∷ 116 ∷ blank
    ∷ 102 ∷ 105 ∷ 114 ∷ 115 ∷ 116 ∷ blank
    ∷ 115 ∷ 101 ∷ 99 ∷ 111 ∷ 110 ∷ 100
    ∷ line_feed
    ∷ []
