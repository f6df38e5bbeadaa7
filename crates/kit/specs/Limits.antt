-- The limits of RULES.md.
use Rattle.std.specs.Prelude.{ℕ, ◌^◌}

-- the most bytes of one transfer
abbrev pub most_bytes : ℕ
most_bytes = 8388607

-- one past the last address
abbrev pub address_end : ℕ
address_end = 2 ^ 32

-- the most bytes of memory, and the most sick windows
abbrev pub most_memory : ℕ
most_memory = 16777216

abbrev pub most_windows : ℕ
most_windows = 16
