-- RULES.md, "Trace and listing": the engine that a record of a trace of two engines is for. Proved in proofs/Naming.antt.
use Rattle.std.specs.Prelude.{Some, ℕ, ◌+◌, ◌≤◌, ◌≡◌, ◌⊎◌, Bool, true, false, List, ◌++◌, eqb, leb, length, get_or, drop}
use Rattle.kit.specs.Choice.{both}
use Rattle.record.specs.declared.reading.Body.{Body}
use Rattle.record.specs.declared.reading.Body.TheVariants.{Settings, Memory, Window, Write, Read, Steps, Astray}
use Rattle.record.specs.declared.reading.Record.{Record}
use Rattle.record.specs.Mark.{Kind, CF, C2, MM, SW, WR, RD, ST, AR, WR2, RD2, ST2, unknown}
use Rattle.record.specs.Reading.{kind_at, reading_of}

-- the kinds that carry an engine number
abbrev pub carries_engine : Kind → Bool
carries_engine CF = false
carries_engine C2 = false
carries_engine MM = false
carries_engine SW = false
carries_engine WR = false
carries_engine RD = false
carries_engine ST = false
carries_engine AR = false
carries_engine WR2 = true
carries_engine RD2 = true
carries_engine ST2 = true
carries_engine unknown = false

-- the record at `at` is for engine n: its number stands right after the sequence number
abbrev pub names_of : List ℕ → ℕ → ℕ → Bool
names_of s at n = both (leb (at + 7) (length s)) (both (eqb (get_or s (at + 6) 0) n) (carries_engine (kind_at s at true)))

-- what a record asks of an engine: a write, a read or steps
abbrev pub asks_engine : Body → Bool
asks_engine (Settings two width beats) = false
asks_engine (Memory address count) = false
asks_engine (Window start count) = false
asks_engine (Write offset value) = true
asks_engine (Read offset) = true
asks_engine (Steps count) = true
asks_engine Astray = false
asks_engine (Body.Clock bits clock) = false

pub record Names : Type 0 where
  -- only the record's first seven bytes matter
  pub dropped : (s : List ℕ) (at n : ℕ) → at ≤ length s → names_of s at n ≡ names_of (drop at s) 0 n
  pub settled : (s more : List ℕ) (at n : ℕ) → at + 7 ≤ length s → names_of (s ++ more) at n ≡ names_of s at n
  -- no record is for both
  pub one_only : (s : List ℕ) (at : ℕ) → names_of s at 1 ≡ true → names_of s at 2 ≡ false
  -- one that asks something of an engine is for engine 1 or 2
  pub there : (s : List ℕ) (at : ℕ) (first : Bool) (r : Record) (next : ℕ) → reading_of s at first true ≡ Some (r, next)
      → asks_engine r.body ≡ true → (names_of s at 1 ≡ true) ⊎ (names_of s at 2 ≡ true)
