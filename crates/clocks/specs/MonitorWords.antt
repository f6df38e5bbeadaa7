-- include/belikumba.h, "Monitor": the 14 words of a monitor, and the fields of a clock.
use Rattle.std.specs.Prelude.{ℕ, ◌+◌, ◌*◌, ◌/◌, ◌%◌, ◌^◌, Bool, List, [], ◌∷◌, eqb}
use Rattle.kit.specs.Choice.{when}
use Rattle.monitor.specs.declared.clock.Clock.{Clock}
use Rattle.monitor.specs.declared.monitor.Monitor.{Monitor}
use Rattle.clocks.specs.declared.monitor_words.ClockForC.{ClockForC}
use Rattle.words.specs.EngineWords.{word}

abbrev pub bit_if : Bool → ℕ → ℕ
bit_if set bit = when set bit 0

-- bit 0 reset-high, bit 1 valid, bit 2 ready
abbrev pub bits_of : Clock → ℕ
bits_of c = bit_if c.aresetn 1 + bit_if c.valid 2 + bit_if c.ready 4

abbrev pub clock_from : ClockForC → Clock
clock_from f = record {
  aresetn = eqb (f.bits % 2) 1;
  valid = eqb (f.bits / 2 % 2) 1;
  ready = eqb (f.bits / 4 % 2) 1;
  address = f.address;
  length = f.length;
  size = f.size;
  burst = f.burst;
  cache = f.cache;
  prot = f.prot;
  qos = f.qos;
  region = f.region;
  id = f.id;
}

-- 64 flags as two words
abbrev pub low_of : ℕ → ℕ
low_of flags = flags % 2 ^ 32

abbrev pub high_of : ℕ → ℕ
high_of flags = flags / 2 ^ 32

abbrev pub flags_from : ℕ → ℕ → ℕ
flags_from low high = low + 2 ^ 32 * high

-- a monitor's words
abbrev pub monitor_words_of : Monitor → List ℕ
monitor_words_of m =
    let b = m.before in
    low_of m.flags ∷ high_of m.flags ∷ low_of m.snapshot ∷ high_of m.snapshot
    ∷ bits_of b ∷ b.address ∷ b.length ∷ b.size ∷ b.burst ∷ b.cache ∷ b.prot ∷ b.qos ∷ b.region ∷ b.id
    ∷ []

-- the monitor that 14 words spell
abbrev pub fields_from : List ℕ → ClockForC
fields_from w = record {
  bits = word w 4;
  address = word w 5;
  length = word w 6;
  size = word w 7;
  burst = word w 8;
  cache = word w 9;
  prot = word w 10;
  qos = word w 11;
  region = word w 12;
  id = word w 13;
}

abbrev pub monitor_from : List ℕ → Monitor
monitor_from w = record { flags = flags_from (word w 0) (word w 1); snapshot = flags_from (word w 2) (word w 3); before = clock_from (fields_from w) }
