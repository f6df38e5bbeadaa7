-- RULES.md, "Bus clocks": the tests of flags 37 to 44 that are more than one comparison.
use Rattle.std.specs.Prelude.{ℕ, ◌/◌, ◌%◌, ◌^◌, Bool, ◌&&◌, ◌||◌, not, List, [], ◌∷◌, eqb, ltb}
use Rattle.kit.specs.Settings.{among}
use Rattle.monitor.specs.declared.clock.Clock.{Clock}
use Rattle.monitor.specs.Clock.{beats_of, beat_bytes, last_byte_of, page_of}

-- bit n of a word
abbrev pub bit : ℕ → ℕ → ℕ
bit n word = word / 2 ^ n % 2

-- 37: burst 1, and the last byte in another page than the address
abbrev pub page_crossed : Clock → Bool
page_crossed c = eqb c.burst 1 && not (eqb (page_of (last_byte_of c)) (page_of c.address))

-- 38: burst 2, address not a multiple of 2^size
abbrev pub wrap_unaligned : Clock → Bool
wrap_unaligned c = eqb c.burst 2 && not (eqb (c.address % beat_bytes c) 0)

-- 41: cache bit 1 low, bit 2 or 3 high
abbrev pub cache_wrong : Clock → Bool
cache_wrong c = eqb (bit 1 c.cache) 0 && (eqb (bit 2 c.cache) 1 || eqb (bit 3 c.cache) 1)

-- 42: burst 0, beats above 16
abbrev pub fixed_long : Clock → Bool
fixed_long c = eqb c.burst 0 && ltb 16 (beats_of c)

-- the beats of a wrapping burst
abbrev pub wrap_counts : List ℕ
wrap_counts = 2 ∷ 4 ∷ 8 ∷ 16 ∷ []

abbrev pub wrap_count : ℕ → Bool
wrap_count beats = among beats wrap_counts

-- 43: burst 2, beats not 2, 4, 8 or 16
abbrev pub wrap_beats : Clock → Bool
wrap_beats c = eqb c.burst 2 && not (wrap_count (beats_of c))

-- 44: 2^size above W
abbrev pub size_above : ℕ → Clock → Bool
size_above width c = ltb width (beat_bytes c)
