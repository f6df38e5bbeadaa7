-- What the program keeps from one turn to the next, and what a read and a pass make of it.
use Rattle.std.specs.Prelude.{ℕ, ◌+◌, ◌-◌, ◌≤◌, ◌≡◌, Bool, true, false, not, List, length, take, drop, ℤ, pos, negsuc, eqb, ltb}
use Rattle.kit.specs.Choice.{when}
use Rattle.record.specs.Claims.{longest}
use Rattle.session.specs.declared.Mode.{Mode}
use Rattle.session.specs.declared.Mode.TheVariants.{Start, Records, Steps, Over}
use Rattle.session.specs.declared.AfterPass.{AfterPass}
use Rattle.session.specs.Effect.{start_of}
use Rattle.flow.specs.declared.flow.Flow.{Flow}

-- the bytes of each of the two buffers, for the trace and for the listing
abbrev pub room : ℕ
room = 65536

-- how many bytes are pending: read, but not used yet
abbrev pub left_of : Flow → ℕ
left_of f = f.filled - f.at

-- the pending bytes, in the buffer
abbrev pub pending : Flow → List ℕ → List ℕ
pending f b = take (left_of f) (drop f.at b)

-- the pending bytes are a part of the buffer
pub record Fits (f : Flow) (b : List ℕ) : Type 0 where
  pub begins : f.at ≤ f.filled
  pub within : f.filled ≤ room
  pub size : length b ≡ room

-- at the start nothing is pending, and a second engine is as the first; without a reader of the header the replay is over
abbrev pub opened_of : Bool → Flow
opened_of sent = record { session = start_of; other = start_of.engine; position = 0; at = 0; filled = 0; ended = false; over = not sent }

-- a read is due: the trace goes on, and a record may be cut off by the end of the pending bytes
abbrev pub wants_of : Flow → Bool
wants_of f = when f.ended false (ltb (left_of f) longest)

-- after a read, by its answer: the pending bytes are at the buffer's front, and as many as it answered come after them.
-- The answer 0 is the trace's end. A read that failed is not: if it was interrupted the next turn reads again, else the
-- replay is over.
abbrev pub after_read : Flow → ℤ → Bool → Flow
after_read f (pos n) interrupted =
    record { session = f.session; other = f.other; position = f.position; at = 0; filled = left_of f + n; ended = eqb n 0; over = f.over }
after_read f (negsuc n) interrupted =
    record { session = f.session; other = f.other; position = f.position; at = 0; filled = left_of f; ended = f.ended; over = not interrupted }

-- there is nothing more to print: after a bad line, or at the trace's end with no byte and no step left
abbrev pub finished_of : Mode → ℕ → Bool → Bool
finished_of Over left ended = true
finished_of (Steps n taken) left ended = false
finished_of Start left ended = when ended (eqb left 0) false
finished_of Records left ended = when ended (eqb left 0) false

-- the replay is over if it is finished, or if nobody took its text
abbrev pub over_of : Bool → Mode → ℕ → Bool → Bool
over_of sent mode left ended = when sent (finished_of mode left ended) true

-- after a pass: its session and engines, and its bytes used
abbrev pub after_pass : Flow → AfterPass → Bool → Flow
after_pass f p sent =
    record {
      session = p.session;
      other = p.other;
      position = f.position + p.at;
      at = f.at + p.at;
      filled = f.filled;
      ended = f.ended;
      over = over_of sent p.session.mode (f.filled - (f.at + p.at)) f.ended;
    }
