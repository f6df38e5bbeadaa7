-- What the definitions of this crate have to imply: proved in proofs/Claims.antt.
use Rattle.std.specs.Prelude.{Some, None, ◌≡◌, Bool, List, ◌++◌, ℕ, ◌+◌, ◌^◌, ◌≤◌, ◌<◌, length, get_or, drop}
use Rattle.monitor.specs.declared.clock.Clock.{Clock}
use Rattle.record.specs.declared.reading.Body.{Body}
use Rattle.record.specs.declared.reading.Body.TheVariants.{Settings, Memory, Window, Write, Read, Steps, Astray}
use Rattle.record.specs.declared.reading.Record.{Record}
use Rattle.record.specs.Mark.{MM, most_data, header_length, body_length}
use Rattle.record.specs.Reading.{Reading, reading_of}

-- the longest record: MM with all its data
abbrev pub longest : ℕ
longest = header_length + body_length MM + most_data

-- every element is a byte
abbrev pub Bytes : List ℕ → Type 0
Bytes s = (i : ℕ) → get_or s i 0 < 256

-- the ranges of an AR record's fields
pub record ClockWithin (bits : ℕ) (c : Clock) : Type 0 where
  pub bits-byte : bits < 256
  pub length-byte : c.length < 256
  pub size-byte : c.size < 256
  pub burst-byte : c.burst < 256
  pub cache-byte : c.cache < 256
  pub prot-byte : c.prot < 256
  pub qos-byte : c.qos < 256
  pub region-byte : c.region < 256
  pub id-word : c.id < 2 ^ 32
  pub address_word : c.address < 2 ^ 32

-- the ranges of a body's fields: u8, u16 and u32
abbrev pub Within : Body → Type 0
Within (Settings two width beats) = (width < 65536) × (beats < 65536)
Within (Memory address length) = (address < 2 ^ 32) × (length < 65536)
Within (Window start length) = (start < 2 ^ 32) × (length < 2 ^ 32)
Within (Write offset value) = (offset < 65536) × (value < 2 ^ 32)
Within (Read offset) = offset < 65536
Within (Steps count) = count < 65536
Within Astray = Unit {0}
Within (Body.Clock bits clock) = ClockWithin bits clock

-- the same record, its next place reckoned from a place d bytes before
abbrev pub shifted : ℕ → Reading → Reading
shifted d (Some (r, n)) = Some (r, d + n)
shifted d None = None

pub record Claims : Type 0 where
  -- a record found has a byte at least, lies inside, and is no longer than the longest
  pub inside : (s : List ℕ) (at : ℕ) (first two : Bool) (r : Record) (n : ℕ) → reading_of s at first two ≡ Some (r, n)
      → (at < n) × (n ≤ length s) × (n ≤ at + longest)
  -- an MM record has 1..1024 bytes of data, from at + 12 up to the next place
  pub memory : (s : List ℕ) (at : ℕ) (first two : Bool) (r : Record) (n address size : ℕ) → reading_of s at first two ≡ Some (r, n)
      → r.body ≡ Memory address size → (at + 12 + size ≡ n) × (1 ≤ size) × (size ≤ most_data)
  -- the fields are u8, u16 and u32
  pub ranges : (s : List ℕ) (at : ℕ) (first two : Bool) (r : Record) (n : ℕ) → Bytes s → reading_of s at first two ≡ Some (r, n)
      → (r.sequence < 2 ^ 32) × Within r.body
  -- bytes after a record found do not change it
  pub appended : (s more : List ℕ) (at : ℕ) (first two : Bool) (r : Record) (n : ℕ) → reading_of s at first two ≡ Some (r, n)
      → reading_of (s ++ more) at first two ≡ Some (r, n)
  -- where the longest record has room, bytes after it change nothing, a refusal neither
  pub settled : (s more : List ℕ) (at : ℕ) (first two : Bool) → at + longest ≤ length s
      → reading_of (s ++ more) at first two ≡ reading_of s at first two
  -- the bytes before a record do not matter
  pub dropped : (s : List ℕ) (at : ℕ) (first two : Bool) → at ≤ length s
      → reading_of s at first two ≡ shifted at (reading_of (drop at s) 0 first two)
  -- two results that the contract of `read` allows are equal
  pub unique : (s : List ℕ) (at : ℕ) (first two : Bool) (r t : Reading) → r ≡ reading_of s at first two → t ≡ reading_of s at first two → r ≡ t
