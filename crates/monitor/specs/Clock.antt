-- RULES.md, "Bus clocks": the ranges of a clock's fields, and the bytes that its burst reaches.
use Rattle.std.specs.Prelude.{ℕ, ◌+◌, ◌-◌, ◌*◌, ◌/◌, ◌^◌, Bool, ◌&&◌, ltb}
use Rattle.monitor.specs.declared.clock.Clock.{Clock}

-- length 0..255, size 0..7, burst 0..3, cache 0..15, prot 0..7, qos 0..15, region 0..15; address and id are any numbers
abbrev pub in_range : Clock → Bool
in_range c =
    ltb c.length 256 && ltb c.size 8 && ltb c.burst 4 && ltb c.cache 16 && ltb c.prot 8 && ltb c.qos 16 && ltb c.region 16

-- beats are length + 1
abbrev pub beats_of : Clock → ℕ
beats_of c = c.length + 1

-- the bytes of a beat
abbrev pub beat_bytes : Clock → ℕ
beat_bytes c = 2 ^ c.size

-- the address rounded down to 2^size
abbrev pub rounded_of : Clock → ℕ
rounded_of c = c.address / beat_bytes c * beat_bytes c

-- the last byte: the address rounded down to 2^size, plus beats × 2^size, less 1
abbrev pub last_byte_of : Clock → ℕ
last_byte_of c = rounded_of c + beats_of c * beat_bytes c - 1

-- the 4,096-byte page of a byte
abbrev pub page_of : ℕ → ℕ
page_of a = a / 4096
