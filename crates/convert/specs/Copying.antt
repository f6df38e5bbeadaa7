-- What the converter keeps from one turn to the next, and what a read and a write make of it.
use Rattle.std.specs.Prelude.{ℕ, ◌+◌, ◌≤◌, ◌≡◌, Bool, true, false, not, List, length, take, drop, ℤ, pos, negsuc, eqb, leb}
use Rattle.kit.specs.Choice.{when, both, either}
use Rattle.record.specs.Starts.{settings_at, older_settings, converted_of}
use Rattle.convert.specs.declared.copying.Copying.{Copying}

-- the bytes of the buffer
abbrev pub room : ℕ
room = 65536

-- the bytes of CF 0 (4,16) at its front
abbrev pub front : ℕ
front = 10

-- the pending bytes, in the buffer: read, but not handed over yet
abbrev pub pending_of : Copying → List ℕ → List ℕ
pending_of s b = take s.waiting (drop front b)

-- CF 0 (4,16) stands at the buffer's front, and the pending bytes are a part of the rest
pub record Fits (s : Copying) (b : List ℕ) : Type 0 where
  pub size : length b ≡ room
  pub older : take front b ≡ older_settings
  pub within : front + s.waiting ≤ room

-- at the start nothing is pending
abbrev pub opened : Copying
opened = record { waiting = 0; decided = false; ended = false; taken = true; failed = false }

-- no turn is to come
abbrev pub over_of : Copying → Bool
over_of s = either s.ended (either s.failed (not s.taken))

-- the whole trace was read, and every write was taken
abbrev pub finished_of : Copying → Bool
finished_of s = both s.taken s.ended

-- what comes before the trace is decided, or can be: two letters are pending, or no more come
abbrev pub ready_of : Copying → Bool
ready_of s = either s.decided (either s.ended (leb 2 s.waiting))

-- after a read, by its answer: as many bytes as it answered are pending after those that were. The answer 0 is the trace's
-- end. A read that failed is not: if it was interrupted the next turn reads again.
abbrev pub after_read : Copying → ℤ → Bool → Copying
after_read s (pos n) interrupted =
    record { waiting = s.waiting + n; decided = s.decided; ended = eqb n 0; taken = s.taken; failed = s.failed }
after_read s (negsuc n) interrupted =
    record { waiting = s.waiting; decided = s.decided; ended = s.ended; taken = s.taken; failed = not interrupted }

-- the bytes that go: the converted trace's first, and then what is read, as it is
abbrev pub going_of : Copying → List ℕ → List ℕ
going_of s pending = when s.decided pending (converted_of pending)

-- where in the buffer they begin
abbrev pub first_of : Copying → List ℕ → ℕ
first_of s pending = when s.decided front (when (settings_at pending 0) front 0)

-- after all that was pending was handed over
abbrev pub after_write : Copying → Bool → Copying
after_write s taken = record { waiting = 0; decided = true; ended = s.ended; taken = taken; failed = s.failed }
