-- RULES.md, "Worked cases": the whole case, byte for byte. Proved in proofs/Cases.antt.
use Rattle.std.specs.Prelude.{◌≡◌, List, [], ◌∷◌, ◌++◌, ℕ}
use Rattle.record.specs.Cases.{whole_case}
use Rattle.listing.specs.Line.{header_of}
use Rattle.whole.specs.Listing.{listing_of}

-- 1 set 4 16; 2 write 24 0; 9 write 32 0; 10 write 40 0; 11 move 4088 8; 11 move 4096 8; 11 stop 2 1
abbrev pub whole_lines : List ℕ
whole_lines =
    49 ∷ 32 ∷ 115 ∷ 101 ∷ 116 ∷ 32 ∷ 52 ∷ 32 ∷ 49 ∷ 54 ∷ 10
    ∷ 50 ∷ 32 ∷ 119 ∷ 114 ∷ 105 ∷ 116 ∷ 101 ∷ 32 ∷ 50 ∷ 52 ∷ 32 ∷ 48 ∷ 10
    ∷ 57 ∷ 32 ∷ 119 ∷ 114 ∷ 105 ∷ 116 ∷ 101 ∷ 32 ∷ 51 ∷ 50 ∷ 32 ∷ 48 ∷ 10
    ∷ 49 ∷ 48 ∷ 32 ∷ 119 ∷ 114 ∷ 105 ∷ 116 ∷ 101 ∷ 32 ∷ 52 ∷ 48 ∷ 32 ∷ 48 ∷ 10
    ∷ 49 ∷ 49 ∷ 32 ∷ 109 ∷ 111 ∷ 118 ∷ 101 ∷ 32 ∷ 52 ∷ 48 ∷ 56 ∷ 56 ∷ 32 ∷ 56 ∷ 10
    ∷ 49 ∷ 49 ∷ 32 ∷ 109 ∷ 111 ∷ 118 ∷ 101 ∷ 32 ∷ 52 ∷ 48 ∷ 57 ∷ 54 ∷ 32 ∷ 56 ∷ 10
    ∷ 49 ∷ 49 ∷ 32 ∷ 115 ∷ 116 ∷ 111 ∷ 112 ∷ 32 ∷ 50 ∷ 32 ∷ 49 ∷ 10
    ∷ []

abbrev pub WholeCase : Type 0
WholeCase = listing_of whole_case ≡ header_of ++ whole_lines
