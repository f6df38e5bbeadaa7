-- RULES.md, "Trace and listing": a record's body, what answer 10 refuses, and what reading a record gives.
use Rattle.std.specs.Prelude.{ℕ, Option, Some, None, ◌+◌, ◌/◌, ◌%◌, Bool, true, false, List, eqb, leb, length, get_or}
use Rattle.kit.specs.Choice.{when, either}
use Rattle.kit.specs.Word.{word_at, half_at}
use Rattle.monitor.specs.declared.clock.Clock.{Clock}
use Rattle.record.specs.declared.reading.Body.{Body}
use Rattle.record.specs.declared.reading.Body.TheVariants.{Settings, Memory, Window, Write, Read, Steps, Astray}
use Rattle.record.specs.declared.reading.Record.{Record}
use Rattle.record.specs.Mark.{Kind, CF, C2, MM, SW, WR, RD, ST, AR, WR2, RD2, ST2, unknown, kind_of, of_trace, body_length, header_length, data_allowed}

-- what reading gives: a record and the place after it, or none, which is answer 10
abbrev pub Reading : Type 0
Reading = Option (Record × ℕ)

-- the clock of the AR record at `at`: bits 0 reset-high, 1 valid, 2 ready; a byte a field; id and address
abbrev pub clock_at : List ℕ → ℕ → ℕ → Clock
clock_at s at bits = record {
  aresetn = eqb (bits % 2) 1;
  valid = eqb (bits / 2 % 2) 1;
  ready = eqb (bits / 4 % 2) 1;
  address = word_at s (at + 18);
  length = get_or s (at + 7) 0;
  size = get_or s (at + 8) 0;
  burst = get_or s (at + 9) 0;
  cache = get_or s (at + 10) 0;
  prot = get_or s (at + 11) 0;
  qos = get_or s (at + 12) 0;
  region = get_or s (at + 13) 0;
  id = word_at s (at + 14);
}

-- the engines are 1 and 2
abbrev pub engine_there : ℕ → Bool
engine_there n = either (eqb n 1) (eqb n 2)

-- a body for the engine of this number: astray where there is no such engine
abbrev pub for_engine : ℕ → Body → Body
for_engine n b = when (engine_there n) b Astray

-- the body of the record at `at`, field after field (no record is of the unknown kind)
abbrev pub body_of : List ℕ → ℕ → Kind → Body
body_of s at CF = Settings false (half_at s (at + 6)) (half_at s (at + 8))
body_of s at C2 = Settings true (half_at s (at + 6)) (half_at s (at + 8))
body_of s at MM = Memory (word_at s (at + 6)) (half_at s (at + 10))
body_of s at SW = Window (word_at s (at + 6)) (word_at s (at + 10))
body_of s at WR = Write (half_at s (at + 6)) (word_at s (at + 8))
body_of s at RD = Read (half_at s (at + 6))
body_of s at ST = Steps (half_at s (at + 6))
body_of s at AR = Body.Clock (get_or s (at + 6) 0) (clock_at s at (get_or s (at + 6) 0))
body_of s at WR2 = for_engine (get_or s (at + 6) 0) (Write (half_at s (at + 7)) (word_at s (at + 9)))
body_of s at RD2 = for_engine (get_or s (at + 6) 0) (Read (half_at s (at + 7)))
body_of s at ST2 = for_engine (get_or s (at + 6) 0) (Steps (half_at s (at + 7)))
body_of s at unknown = Steps 0

-- the data after an MM record's body
abbrev pub data_length : List ℕ → ℕ → Kind → ℕ
data_length s at CF = 0
data_length s at C2 = 0
data_length s at MM = half_at s (at + 10)
data_length s at SW = 0
data_length s at WR = 0
data_length s at RD = 0
data_length s at ST = 0
data_length s at AR = 0
data_length s at WR2 = 0
data_length s at RD2 = 0
data_length s at ST2 = 0
data_length s at unknown = 0

-- all the bytes of the record at `at`
abbrev pub size_of : List ℕ → ℕ → Kind → ℕ
size_of s at k = header_length + body_length k + data_length s at k

-- the kind of the record that sets up two engines, or one
abbrev pub settings_kind : Bool → Kind
settings_kind true = C2
settings_kind false = CF

-- CF and C2 may only come first; an MM length is 1..1024; an unknown mark is refused
abbrev pub allowed : List ℕ → ℕ → Bool → Kind → Bool
allowed s at first CF = first
allowed s at first C2 = first
allowed s at first MM = data_allowed (half_at s (at + 10))
allowed s at first SW = true
allowed s at first WR = true
allowed s at first RD = true
allowed s at first ST = true
allowed s at first AR = true
allowed s at first WR2 = true
allowed s at first RD2 = true
allowed s at first ST2 = true
allowed s at first unknown = false

-- a record of `count` bytes: its sequence number, its body, and the next place
abbrev pub found_of : List ℕ → ℕ → ℕ → Body → Reading
found_of s at count b = Some (record { sequence = word_at s (at + 2); body = b }, at + count)

-- the record at `at`, taken as one of kind k: refused where it is not allowed or cut short
abbrev pub reading_as : List ℕ → ℕ → Bool → Kind → Reading
reading_as s at first k =
    when (allowed s at first k)
    (when (leb (at + size_of s at k) (length s)) (found_of s at (size_of s at k) (body_of s at k)) None)
    None

-- the kind that the mark at `at` names, in a trace of two engines or of one
abbrev pub kind_at : List ℕ → ℕ → Bool → Kind
kind_at s at two = of_trace two (kind_of (half_at s at))

-- the record at `at`, of the kind that its mark names
unfoldable pub reading_of : List ℕ → ℕ → Bool → Bool → Reading
reading_of s at first two = reading_as s at first (kind_at s at two)
