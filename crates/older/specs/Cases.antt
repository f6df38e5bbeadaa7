-- RULES.md, "Trace and listing": short traces with and without CF, and of two engines, listed by computing. Proved in proofs/Cases.antt.
use Rattle.std.specs.Prelude.{◌≡◌, List, [], ◌∷◌, ◌++◌, ℕ, take, replicate}
use Rattle.listing.specs.declared.line.Line.{Line}
use Rattle.listing.specs.declared.word.Word.{Word}
use Rattle.listing.specs.declared.word.Word.TheVariants.{Set, Write, Read, Stop, Bad}
use Rattle.listing.specs.declared.word.Word.TheVariants.{Move as Moves}
use Rattle.listing.specs.Line.{header_of}
use Rattle.record.specs.Starts.{older_settings, converted_of}
use Rattle.whole.specs.Listing.{listing_of}
use Rattle.older.specs.Lines.{texts_of}
use Rattle.older.specs.Older.{older_listing_of}
use Rattle.older.specs.Former.{former_listing_of}

-- RD n (4), for a number below 256: CDMASR of a fresh engine is 65546
abbrev pub register : ℕ → List ℕ
register n = 82 ∷ 68 ∷ n ∷ 0 ∷ 0 ∷ 0 ∷ 4 ∷ 0 ∷ []

-- each other record that may carry a number, with number 0: MM, SW, WR, ST, AR
abbrev pub memory_zero : List ℕ
memory_zero = 77 ∷ 77 ∷ 0 ∷ 0 ∷ 0 ∷ 0 ∷ 0 ∷ 1 ∷ 0 ∷ 0 ∷ 1 ∷ 0 ∷ 9 ∷ []

abbrev pub window_zero : List ℕ
window_zero = 83 ∷ 87 ∷ 0 ∷ 0 ∷ 0 ∷ 0 ∷ 0 ∷ 1 ∷ 0 ∷ 0 ∷ 4 ∷ 0 ∷ 0 ∷ 0 ∷ []

abbrev pub write_zero : List ℕ
write_zero = 87 ∷ 82 ∷ 0 ∷ 0 ∷ 0 ∷ 0 ∷ 24 ∷ 0 ∷ 0 ∷ 1 ∷ 0 ∷ 0 ∷ []

abbrev pub steps_zero : List ℕ
steps_zero = 83 ∷ 84 ∷ 0 ∷ 0 ∷ 0 ∷ 0 ∷ 5 ∷ 0 ∷ []

abbrev pub clock_zero : List ℕ
clock_zero = 65 ∷ 82 ∷ replicate 20 0

-- these lines under the header
abbrev pub listed : List Line → List ℕ
listed ls = header_of ++ texts_of ls

abbrev pub line : ℕ → Word → ℕ → ℕ → Line
line sequence word first second = record { sequence = sequence; word = word; first = first; second = second }

pub record DefaultCases : Type 0 where
  -- without CF; the same of an older board
  pub default : listing_of (register 1) ≡ listed (line 0 Set 4 64 ∷ line 1 Read 4 65546 ∷ [])
  pub older : older_listing_of (register 1) ≡ listed (line 1 Read 4 65546 ∷ [])
  pub converted : listing_of (converted_of (register 1)) ≡ listed (line 0 Set 4 16 ∷ line 1 Read 4 65546 ∷ [])
  -- number 0 in a record that is no CF: first, of each kind; after a CF with 0; and of an older board
  pub zero-first : listing_of (register 0) ≡ listed (line 0 Set 4 64 ∷ line 0 Bad 11 0 ∷ [])
  pub zero-memory : listing_of memory_zero ≡ listed (line 0 Set 4 64 ∷ line 0 Bad 11 0 ∷ [])
  pub zero-window : listing_of window_zero ≡ listed (line 0 Set 4 64 ∷ line 0 Bad 11 0 ∷ [])
  pub zero-write : listing_of write_zero ≡ listed (line 0 Set 4 64 ∷ line 0 Bad 11 0 ∷ [])
  pub zero-steps : listing_of steps_zero ≡ listed (line 0 Set 4 64 ∷ line 0 Bad 11 0 ∷ [])
  pub zero-clock : listing_of clock_zero ≡ listed (line 0 Set 4 64 ∷ line 0 Bad 11 0 ∷ [])
  pub zero-next : listing_of (older_settings ++ register 0) ≡ listed (line 0 Set 4 16 ∷ line 0 Bad 11 10 ∷ [])
  pub zero-older : older_listing_of (register 0) ≡ listed (line 0 Bad 11 0 ∷ [])
  -- CF with number 0: good, 1 with settings off the lists, and 11 on an older board
  pub settings-refused : listing_of (67 ∷ 70 ∷ 0 ∷ 0 ∷ 0 ∷ 0 ∷ 3 ∷ 0 ∷ 16 ∷ 0 ∷ []) ≡ listed (line 0 Bad 1 0 ∷ [])
  pub settings-zero : listing_of older_settings ≡ listed (line 0 Set 4 16 ∷ [])
  pub settings-older : older_listing_of older_settings ≡ listed (line 0 Bad 11 0 ∷ [])
  -- a CF cut short; its first letter alone; nothing at all, and what the converter makes of it
  pub cut : listing_of (67 ∷ 70 ∷ []) ≡ listed (line 0 Bad 10 0 ∷ [])
  pub letter : listing_of (67 ∷ []) ≡ listed (line 0 Set 4 64 ∷ line 0 Bad 10 0 ∷ [])
  pub empty : listing_of [] ≡ listed []
  pub empty-converted : listing_of (converted_of []) ≡ listed (line 0 Set 4 16 ∷ [])

-- ---- two engines, with numbers below 256

-- C2 n (4,L)
abbrev pub pair_settings : ℕ → ℕ → List ℕ
pair_settings n beats = 67 ∷ 50 ∷ n ∷ 0 ∷ 0 ∷ 0 ∷ 4 ∷ 0 ∷ beats ∷ 0 ∷ []

-- WR n engine (offset,value); RD n engine (offset); ST n engine (count)
abbrev pub write_for : ℕ → ℕ → ℕ → ℕ → List ℕ
write_for engine n offset value = 87 ∷ 82 ∷ n ∷ 0 ∷ 0 ∷ 0 ∷ engine ∷ offset ∷ 0 ∷ value ∷ 0 ∷ 0 ∷ 0 ∷ []

abbrev pub read_for : ℕ → ℕ → ℕ → List ℕ
read_for engine n offset = 82 ∷ 68 ∷ n ∷ 0 ∷ 0 ∷ 0 ∷ engine ∷ offset ∷ 0 ∷ []

abbrev pub steps_for : ℕ → ℕ → ℕ → List ℕ
steps_for engine n count = 83 ∷ 84 ∷ n ∷ 0 ∷ 0 ∷ 0 ∷ engine ∷ count ∷ 0 ∷ []

-- SA of engine 1 is 8, of engine 2 16
abbrev pub both_written : List ℕ
both_written = pair_settings 0 16 ++ write_for 1 1 24 8 ++ write_for 2 2 24 16

pub record PairCases : Type 0 where
  -- registers are separate, and a reset (CDMACR bit 2) reaches one engine
  pub separate : listing_of (both_written ++ read_for 1 3 24 ++ read_for 2 4 24)
      ≡ listed (line 0 Set 4 16 ∷ line 1 Write 24 0 ∷ line 2 Write 24 0 ∷ line 3 Read 24 8 ∷ line 4 Read 24 16 ∷ [])
  pub reset : listing_of (both_written ++ write_for 1 3 0 4 ++ read_for 1 4 24 ++ read_for 2 5 24)
      ≡ listed (line 0 Set 4 16 ∷ line 1 Write 24 0 ∷ line 2 Write 24 0 ∷ line 3 Write 0 0 ∷ line 4 Read 24 0 ∷ line 5 Read 24 16 ∷ [])
  -- engine 2 has the settings too: bursts of 2 beats
  pub settled : listing_of (pair_settings 0 2 ++ write_for 2 1 32 64 ++ write_for 2 2 40 16 ++ steps_for 2 3 5 ++ steps_for 1 4 5)
      ≡ listed (line 0 Set 4 2 ∷ line 1 Write 32 0 ∷ line 2 Write 40 0 ∷ line 3 Moves 64 8 ∷ line 3 Moves 72 8 ∷ line 3 Stop 2 1 ∷ line 4 Stop 0 1 ∷ [])
  -- no such engine, of each kind; before the register's own answer; after 10 and 11
  pub none-write : listing_of (pair_settings 0 16 ++ write_for 3 1 24 8) ≡ listed (line 0 Set 4 16 ∷ line 0 Bad 21 10 ∷ [])
  pub none_read : listing_of (pair_settings 0 16 ++ read_for 0 1 24) ≡ listed (line 0 Set 4 16 ∷ line 0 Bad 21 10 ∷ [])
  pub none-steps : listing_of (pair_settings 0 16 ++ steps_for 255 1 5) ≡ listed (line 0 Set 4 16 ∷ line 0 Bad 21 10 ∷ [])
  pub none-offset : listing_of (pair_settings 0 16 ++ write_for 3 1 48 8) ≡ listed (line 0 Set 4 16 ∷ line 0 Bad 21 10 ∷ [])
  pub none-again : listing_of (pair_settings 7 16 ++ write_for 3 7 24 8) ≡ listed (line 7 Set 4 16 ∷ line 7 Bad 11 10 ∷ [])
  pub none-cut : listing_of (pair_settings 0 16 ++ take 12 (write_for 3 1 24 8)) ≡ listed (line 0 Set 4 16 ∷ line 0 Bad 10 10 ∷ [])
  -- C2 late, CF after C2, settings off the lists, C2 cut short
  pub late : listing_of (older_settings ++ pair_settings 1 16) ≡ listed (line 0 Set 4 16 ∷ line 0 Bad 10 10 ∷ [])
  pub again : listing_of (pair_settings 0 16 ++ older_settings) ≡ listed (line 0 Set 4 16 ∷ line 0 Bad 10 10 ∷ [])
  pub off : listing_of (pair_settings 1 3) ≡ listed (line 0 Bad 1 0 ∷ [])
  pub short : listing_of (67 ∷ 50 ∷ []) ≡ listed (line 0 Bad 10 0 ∷ [])
  -- the converter copies it; before there were two engines it was refused, with the default of its time
  pub kept : converted_of both_written ≡ both_written
  pub former : former_listing_of both_written ≡ listed (line 0 Set 4 64 ∷ line 0 Bad 10 0 ∷ [])
  pub older : older_listing_of both_written ≡ listed (line 0 Bad 10 0 ∷ [])
