-- include/belikumba.h, "Engine": which numbers are an engine's words, and which are those of a well-formed one.
use Rattle.std.specs.Prelude.{ℕ, ◌+◌, ◌%◌, Bool, ◌&&◌, ◌||◌, List, length, eqb, ltb, leb}
use Rattle.kit.specs.Choice.{when}
use Rattle.kit.specs.Limits.{most_bytes, address_end}
use Rattle.words.specs.EngineWords.{word}

-- as many words as an engine has
abbrev pub whole_of : List ℕ → Bool
whole_of w = eqb (length w) 22

-- what is a truth is 0 or 1
abbrev pub truths_of : List ℕ → Bool
truths_of w =
    ltb (word w 2) 2 && ltb (word w 3) 2 && ltb (word w 4) 2 && ltb (word w 6) 2 && ltb (word w 7) 2 && ltb (word w 20) 2 && ltb (word w 21) 2

-- an error bit's number, or 0 for none
abbrev pub bit_listed_of : ℕ → Bool
bit_listed_of n = eqb n 0 || eqb n 4 || eqb n 5 || eqb n 6 || eqb n 8 || eqb n 9 || eqb n 10

-- a phase's number
abbrev pub phase_listed_of : ℕ → Bool
phase_listed_of n = eqb n 0 || eqb n 1 || eqb n 2 || eqb n 28 || eqb n 29 || eqb n 30 || eqb n 31

-- no transfer
abbrev pub still_of : List ℕ → Bool
still_of w = eqb (word w 16) 0 && eqb (word w 17) 0 && eqb (word w 18) 0 && eqb (word w 19) 0

-- an engine has these words
abbrev pub spelled_of : List ℕ → Bool
spelled_of w = whole_of w && truths_of w && bit_listed_of (word w 5) && phase_listed_of (word w 15) && (eqb (word w 15) 2 || still_of w)

-- the pointers are multiples of 64
abbrev pub aligned_of : List ℕ → Bool
aligned_of w = eqb (word w 8 % 64) 0 && eqb (word w 9 % 64) 0 && eqb (word w 10 % 64) 0 && eqb (word w 11 % 64) 0

-- an address that far behind `start` exists
abbrev pub inside_of : ℕ → ℕ → Bool
inside_of start moved = ltb (start + moved) address_end

-- the transfer is not at its end, and is where the addresses are
abbrev pub fits_of : List ℕ → Bool
fits_of w =
    ltb (word w 19) (word w 18) && leb (word w 18) most_bytes && inside_of (word w 16) (word w 19) && inside_of (word w 17) (word w 19)

-- what idle, a move, and fetch or update ask of the other words
abbrev pub phase_sound_of : List ℕ → Bool
phase_sound_of w =
    when (eqb (word w 15) 0) (bit_listed_of (word w 5) && still_of w)
    (when (eqb (word w 15) 2) (eqb (word w 5) 0 && fits_of w)
    (phase_listed_of (word w 15) && eqb (word w 5) 0 && eqb (word w 2) 1 && still_of w))

-- a well-formed engine has these words
abbrev pub sound_of : List ℕ → Bool
sound_of w = whole_of w && truths_of w && aligned_of w && leb (word w 14) most_bytes && phase_sound_of w

-- no error bit is set, the byte count register fits, and the phase is a move
abbrev pub settled_of : List ℕ → Bool
settled_of w = eqb (word w 5) 0 && leb (word w 14) most_bytes && eqb (word w 15) 2

-- it is in the midst of a transfer
abbrev pub moves_of : List ℕ → Bool
moves_of w = whole_of w && truths_of w && aligned_of w && settled_of w && fits_of w
