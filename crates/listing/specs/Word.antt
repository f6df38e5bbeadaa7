-- RULES.md, "Trace and listing": the words of the lines, in ASCII.
use Rattle.std.specs.Prelude.{ℕ, ◌-◌, List, [], ◌∷◌, ◌++◌, length, drop}
use Rattle.listing.specs.declared.word.Word.{Word}
use Rattle.listing.specs.declared.word.Word.TheVariants.{Set, Memory, Window, Write, Read, NoRead, Bus, Fetch, Move, Fault, Update, Halt, Stop, Bad}

abbrev pub blank : ℕ
blank = 32

abbrev pub word_of : Word → List ℕ
-- set
word_of Set = 115 ∷ 101 ∷ 116 ∷ []
-- memory
word_of Memory = 109 ∷ 101 ∷ 109 ∷ 111 ∷ 114 ∷ 121 ∷ []
-- window
word_of Window = 119 ∷ 105 ∷ 110 ∷ 100 ∷ 111 ∷ 119 ∷ []
-- write
word_of Write = 119 ∷ 114 ∷ 105 ∷ 116 ∷ 101 ∷ []
-- read
word_of Read = 114 ∷ 101 ∷ 97 ∷ 100 ∷ []
-- noread
word_of NoRead = 110 ∷ 111 ∷ 114 ∷ 101 ∷ 97 ∷ 100 ∷ []
-- bus
word_of Bus = 98 ∷ 117 ∷ 115 ∷ []
-- fetch
word_of Fetch = 102 ∷ 101 ∷ 116 ∷ 99 ∷ 104 ∷ []
-- move
word_of Move = 109 ∷ 111 ∷ 118 ∷ 101 ∷ []
-- fault
word_of Fault = 102 ∷ 97 ∷ 117 ∷ 108 ∷ 116 ∷ []
-- update
word_of Update = 117 ∷ 112 ∷ 100 ∷ 97 ∷ 116 ∷ 101 ∷ []
-- halt
word_of Halt = 104 ∷ 97 ∷ 108 ∷ 116 ∷ []
-- stop
word_of Stop = 115 ∷ 116 ∷ 111 ∷ 112 ∷ []
-- bad
word_of Bad = 98 ∷ 97 ∷ 100 ∷ []

-- the word and the blank after it
abbrev pub spaced_of : Word → List ℕ
spaced_of w = word_of w ++ (blank ∷ [])

-- zeros after them, to eight bytes: a word has three to seven letters
abbrev pub zeros_of : Word → List ℕ
zeros_of w = drop (length (word_of w) - 3) (0 ∷ 0 ∷ 0 ∷ 0 ∷ [])

abbrev pub eight_of : Word → List ℕ
eight_of w = spaced_of w ++ zeros_of w
