-- RULES.md, "Memory that answers badly": what one byte answers, and what a group of bytes answers.
use Rattle.std.specs.Prelude.{ℕ, zero, suc, List, leb}
use Rattle.kit.specs.Choice.{when}
use Rattle.memory.specs.declared.window.Window.{Window}
use Rattle.memory.specs.declared.verdict.Verdict.{Verdict}
use Rattle.memory.specs.declared.verdict.Verdict.TheVariants.{Okay, Slave, Decode}
use Rattle.memory.specs.Windows.{sick}

-- a byte at or past the end of a memory of `size` bytes: decode error; one in a sick window: slave error
abbrev pub byte_of : ℕ → List Window → ℕ → Verdict
byte_of size windows a = when (leb size a) Decode (when (sick windows a) Slave Okay)

-- decode error before slave error before OKAY
abbrev pub worse : Verdict → Verdict → Verdict
worse Decode v = Decode
worse Slave Decode = Decode
worse Slave Slave = Slave
worse Slave Okay = Slave
worse Okay v = v

-- the n bytes from a on: the worst of their answers
unfoldable pub group_of : ℕ → List Window → ℕ → ℕ → Verdict
group_of size windows a zero = Okay
group_of size windows a (suc n) = worse (byte_of size windows a) (group_of size windows (suc a) n)

-- two groups of n bytes, from a and from b on, judged together
abbrev pub pair_of : ℕ → List Window → ℕ → ℕ → ℕ → Verdict
pair_of size windows a b n = worse (group_of size windows a n) (group_of size windows b n)
