-- RULES.md, "Trace and listing": a record is read, judged and applied.
use Rattle.std.specs.Prelude.{ℕ, ◌+◌, ◌≤◌, Bool, true, false, List, Option, None, Some, length, eqb, leb}
use Rattle.kit.specs.Choice.{when, both}
use Rattle.kit.specs.declared.answer.Refusal.TheVariants as answers
use Rattle.kit.specs.Answer.{number_of}
use Rattle.record.specs.declared.reading.Body.{Body}
use Rattle.record.specs.declared.reading.Body.TheVariants.{Settings, Memory, Window, Write, Read, Steps, Astray, Clock}
use Rattle.record.specs.declared.reading.Record.{Record}
use Rattle.record.specs.Reading.{reading_of}
use Rattle.session.specs.declared.Session.{Session}
use Rattle.session.specs.declared.Effect.{Effect}
use Rattle.session.specs.Chosen.{two_of}
use Rattle.session.specs.Effect.{Lent, After, after, bad_of, settings_of, memory_of, window_of, write_of, read_of, steps_of, clock_of}

-- the bytes of an MM record stand in the input, 12 bytes after its mark
abbrev pub DataFits : List ℕ → ℕ → Body → Type 0
DataFits input at (Settings two width beats) = Unit {0}
DataFits input at (Memory address count) = at + 12 + count ≤ length input
DataFits input at (Window start count) = Unit {0}
DataFits input at (Write offset value) = Unit {0}
DataFits input at (Read offset) = Unit {0}
DataFits input at (Steps count) = Unit {0}
DataFits input at Astray = Unit {0}
DataFits input at (Clock bits clock) = Unit {0}

-- what each record does and prints, to the engine that it is for if it is for one; that engine is chosen. A record for an
-- engine that is not there is refused
unfoldable pub apply_of : Session → ℕ → ℕ → List ℕ → ℕ → Lent → Body → After
apply_of s n position input at lent (Settings two width beats) = after (settings_of s n two width beats position) lent
apply_of s n position input at lent (Memory address count) = memory_of s n address count position input (at + 12) lent
apply_of s n position input at lent (Window start count) = window_of s n start count position lent
apply_of s n position input at lent (Write offset value) = after (write_of s n offset value) lent
apply_of s n position input at lent (Read offset) = after (read_of s n offset) lent
apply_of s n position input at lent (Steps count) = after (steps_of s n count) lent
apply_of s n position input at lent Astray = after (bad_of s (number_of answers.Engine) position) lent
apply_of s n position input at lent (Clock bits clock) = after (clock_of s n bits clock position) lent

-- a record's effect, the place of the next one, and what is lent
pub record Turn : Type 0 where
  pub effect : Effect
  pub at : ℕ
  pub lent : Lent

abbrev pub turn_as : After → ℕ → Turn
turn_as a at = record { effect = a.effect; at = at; lent = a.lent }

-- CF and C2 come first, and may carry 0
abbrev pub numbered : Body → Bool
numbered (Settings two width beats) = false
numbered (Memory address count) = true
numbered (Window start count) = true
numbered (Write offset value) = true
numbered (Read offset) = true
numbered (Steps count) = true
numbered Astray = true
numbered (Clock bits clock) = true

-- any other record's sequence number has to be above the last one
abbrev pub stale_of : ℕ → ℕ → Body → Bool
stale_of before sequence body = both (leb sequence before) (numbered body)

-- a record by what reading gave: none, a sequence number not above the last one, then the record's own refusals
abbrev pub record_by : Session → ℕ → List ℕ → ℕ → Lent → Option (Record × ℕ) → Turn
record_by s position input at lent None = turn_as (after (bad_of s (number_of answers.Record) position) lent) at
record_by s position input at lent (Some (r, next)) =
    when (stale_of s.sequence r.sequence r.body) (turn_as (after (bad_of s (number_of answers.Sequence) position) lent) at)
    (turn_as (apply_of s r.sequence position input at lent r.body) next)

-- the record at `at`, which is the trace's first where its position is 0
abbrev pub record_turn_of : Session → ℕ → List ℕ → ℕ → Lent → Turn
record_turn_of s position input at lent = record_by s position input at lent (reading_of input at (eqb position 0) (two_of s.chosen))
