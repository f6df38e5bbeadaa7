-- RULES.md, "Bus clocks", and PG101's status bits: the table of flags, a line each. 40 and 51 have no check.
use Rattle.std.specs.Prelude.{ℕ, ◌^◌, Bool, ◌&&◌, not, List, [], ◌∷◌, eqb}
use Rattle.std.specs.Int.Bits.{bit_or}
use Rattle.kit.specs.Choice.{when}
use Rattle.monitor.specs.declared.clock.Clock.{Clock}
use Rattle.monitor.specs.Rules.{page_crossed, wrap_unaligned, cache_wrong, fixed_long, wrap_beats, size_above}

-- the word with this flag alone, or with none
unfoldable pub flag_of : ℕ → Bool → ℕ
flag_of number broken = when broken (2 ^ number) 0

-- a line of the table: a flag's number, and whether its rule is broken
abbrev pub Line : Type 0
Line = ℕ × Bool

-- the word with the flags of all broken rules raised
unfoldable pub raise : ℕ → List Line → ℕ
raise flags [] = flags
raise flags (line ∷ lines) = raise (bit_or flags (flag_of line.0 line.1)) lines

-- out of reset with valid high; 45: the clock before was in reset
unfoldable pub valid_table : ℕ → Clock → Clock → List Line
valid_table width before clock =
    (37, page_crossed clock)
    ∷ (38, wrap_unaligned clock)
    ∷ (39, eqb clock.burst 3)
    ∷ (41, cache_wrong clock)
    ∷ (42, fixed_long clock)
    ∷ (43, wrap_beats clock)
    ∷ (44, size_above width clock)
    ∷ (45, not before.aresetn)
    ∷ []

-- a changed field, and 56: valid now low
unfoldable pub held_table : Clock → Clock → List Line
held_table before clock =
    (46, not (eqb clock.address before.address))
    ∷ (47, not (eqb clock.burst before.burst))
    ∷ (48, not (eqb clock.cache before.cache))
    ∷ (49, not (eqb clock.id before.id))
    ∷ (50, not (eqb clock.length before.length))
    ∷ (52, not (eqb clock.prot before.prot))
    ∷ (53, not (eqb clock.size before.size))
    ∷ (54, not (eqb clock.qos before.qos))
    ∷ (55, not (eqb clock.region before.region))
    ∷ (56, not clock.valid)
    ∷ []

-- the flags after the rules of an address on the bus
unfoldable pub valid_flags : ℕ → ℕ → Clock → Clock → ℕ
valid_flags flags width before clock = when clock.valid (raise flags (valid_table width before clock)) flags

-- the clock before was out of reset, valid and not ready
abbrev pub waiting : Clock → Bool
waiting before = before.aresetn && before.valid && not before.ready

-- the flags after the rules of an address that waits; field checks hold even when valid drops
unfoldable pub held_flags : ℕ → Clock → Clock → ℕ
held_flags flags before clock = when (waiting before) (raise flags (held_table before clock)) flags
