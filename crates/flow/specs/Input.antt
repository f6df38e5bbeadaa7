-- What a refill does, whatever the system answers it. What a read delivers is the system's: it stands here as an unknown.
use Rattle.std.specs.Prelude.{ℕ, ◌-◌, ◌≡◌, Bool, List, length, take, drop, ℤ}
use Rattle.kit.specs.Choice.{when}
use Rattle.kit.specs.Reading.{Moved}
use Rattle.flow.specs.declared.flow.Flow.{Flow}
use Rattle.flow.specs.Flow.{room, left_of, pending, wants_of, after_read}

-- one read if it is due; the pending bytes are as they were, and what was read comes after them
pub record Refills (f : Flow) (b : List ℕ) (r : Flow) (b' : List ℕ) : Type 0 where
  pub answer : ℤ
  pub interrupted : Bool
  pub moved : Moved (room - left_of f) answer
  pub is : r ≡ when (wants_of f) (after_read f answer interrupted) f
  pub kept : take (left_of f) (drop r.at b') ≡ pending f b
  pub size : length b' ≡ room
