-- RULES.md, "Trace and listing": the lines of ST: one a step, then stop.
use Rattle.std.specs.Prelude.{ℕ, ◌+◌, ◌-◌, ◌*◌, min, Bool, not, List, [], ◌∷◌, length, get_or, take, eqb, leb}
use Rattle.kit.specs.Choice.{when, either}
use Rattle.kit.specs.Limits.{most_windows}
use Rattle.state.specs.declared.engine.Engine.{Engine}
use Rattle.state.specs.declared.engine.Phase.{Phase}
use Rattle.state.specs.State.{busy_of}
use Rattle.memory.specs.Windows.{windows_of}
use Rattle.reads.specs.Read.{bit_if}
use Rattle.steps.specs.declared.event.Event.{Event}
use Rattle.steps.specs.Report.{report_of}
use Rattle.steps.specs.Step.{advance_of}
use Rattle.runs.specs.Run as runs
use Rattle.listing.specs.declared.line.Line.{Line}
use Rattle.listing.specs.declared.word.Word.{Word}
use Rattle.listing.specs.declared.word.Word.TheVariants as words
use Rattle.session.specs.declared.Mode.TheVariants.{Records, Steps}
use Rattle.session.specs.declared.Session.{Session}
use Rattle.session.specs.declared.Effect.{Effect}
use Rattle.session.specs.Effect.{Lent, lend, After, after, with_mode}

-- the numbers of the windows' slice that are windows, two each
abbrev pub used_of : ℕ → ℕ
used_of windows = 2 * min windows most_windows

-- the most steps of one ST
abbrev pub most_steps : ℕ
most_steps = 65535

abbrev pub line_as : ℕ → Word → ℕ → ℕ → Line
line_as sequence word first second = record { sequence = sequence; word = word; first = first; second = second }

-- the words of events, by the numbers of steps' `report_of`
abbrev pub event_words : List Word
event_words = words.Stop ∷ words.Fetch ∷ words.Move ∷ words.Fault ∷ words.Update ∷ words.Halt ∷ []

-- an event's word and what is told of it
abbrev pub event_line_of : ℕ → Event → Line
event_line_of n e = let r = report_of e in line_as n (get_or event_words r.number words.Stop) r.first r.second

-- stop steps Idle
abbrev pub stop_line_of : ℕ → ℕ → Phase → Line
stop_line_of n taken phase = line_as n words.Stop taken (bit_if (not (busy_of phase)) 1)

-- an ST stops once its steps are taken or the engine is idle, or if a step would be refused
abbrev pub stops_of : Phase → ℕ → ℕ → Bool → Bool
stops_of phase left taken accepted = either (eqb left 0) (either (leb most_steps taken) (either (not accepted) (not (busy_of phase))))

-- refusals are judged by the windows that a step is lent
abbrev pub accepted_of : Engine → ℕ → ℕ → Bool
accepted_of e windows size = eqb (runs.refusal_of e size (min windows most_windows)) 0

-- the last line of an ST
abbrev pub stopped_of : Session → ℕ → Effect
stopped_of s taken = record { session = with_mode s Records; line = stop_line_of s.sequence taken s.engine.phase }

-- a step's line, and one step less is left
abbrev pub stepped_of : Session → ℕ → ℕ → Event → Engine → Effect
stepped_of s left taken event e = record {
  session = record { engine = e; monitor = s.monitor; sequence = s.sequence; windows = s.windows; chosen = s.chosen; mode = Steps (left - 1) (taken + 1) };
  line = event_line_of s.sequence event;
}

-- one line of an ST
abbrev pub step_line_of : Session → ℕ → ℕ → Lent → After
step_line_of s left taken lent =
    let r = advance_of s.engine lent.memory (windows_of (take (used_of s.windows) lent.windows)) in
    when (stops_of s.engine.phase left taken (accepted_of s.engine s.windows (length lent.memory))) (after (stopped_of s taken) lent)
    (after (stepped_of s left taken r.event r.engine) (lend r.memory lent.windows lent.other))
