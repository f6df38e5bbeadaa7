-- A group of bytes judged by its ends, with one look at each window.
use Rattle.std.specs.Prelude.{ℕ, ◌+◌, ◌-◌, ◌^◌, Bool, false, List, [], ◌∷◌, eqb, ltb}
use Rattle.kit.specs.Choice.{when, either}
use Rattle.memory.specs.declared.window.Window.{Window}
use Rattle.memory.specs.declared.verdict.Verdict.{Verdict}
use Rattle.memory.specs.declared.verdict.Verdict.TheVariants.{Okay, Slave, Decode}
use Rattle.memory.specs.Interval.{touches_of}

-- one of the windows touches the bytes from a up to e
unfoldable pub touched_of : List Window → ℕ → ℕ → Bool
touched_of [] a e = false
touched_of (w ∷ more) a e = either (touches_of w a e) (touched_of more a e)

-- one past the n bytes from a on, or the greatest number of 64 bits
unfoldable pub past_of : ℕ → ℕ → ℕ
past_of a n = when (ltb (a + n) (2 ^ 64)) (a + n) (2 ^ 64 - 1)

-- the verdict of the n bytes from a on, where it is known whether a window touches them
unfoldable pub decide_of : ℕ → ℕ → ℕ → Bool → Verdict
decide_of size a n sick = when (eqb n 0) Okay (when (ltb size (a + n)) Decode (when sick Slave Okay))
