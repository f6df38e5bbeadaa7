-- The room of a table of flat numbers.
use Rattle.std.specs.Prelude.{ℕ, ◌+◌, ◌*◌}
use Rattle.kit.specs.Limits.{most_windows}

-- as many windows as a step allows, and one more
abbrev pub most : ℕ
most = most_windows + 1

-- the numbers that a table has room for
abbrev pub room : ℕ
room = 2 * most
