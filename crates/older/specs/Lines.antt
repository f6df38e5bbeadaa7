-- RULES.md, "Trace and listing": the lines of a listing one by one, before they are text.
use Rattle.std.specs.Prelude.{ℕ, zero, suc, ◌+◌, ◌*◌, Bool, true, false, List, [], ◌∷◌, ◌++◌, length}
use Rattle.kit.specs.Choice.{when}
use Rattle.listing.specs.declared.line.Line.{Line}
use Rattle.listing.specs.Line.{line_of}
use Rattle.record.specs.Starts.{settings_at}
use Rattle.session.specs.declared.Mode.{Mode}
use Rattle.session.specs.declared.Mode.TheVariants.{Start, Records, Steps, Over}
use Rattle.session.specs.declared.Session.{Session}
use Rattle.session.specs.declared.Effect.{Effect}
use Rattle.session.specs.Effect.{settings_line_of, under_way}
use Rattle.session.specs.Stepping.{step_line_of}
use Rattle.session.specs.Turn.{record_turn_of}
use Rattle.session.specs.Pass.{Replay, replay_as, handed, ready_in, turn_on}
use Rattle.whole.specs.Listing.{most_turns, at_start}

-- lines as text
abbrev pub texts_of : List Line → List ℕ
texts_of [] = []
texts_of (l ∷ more) = line_of l ++ texts_of more

-- the line of what comes before the first record, none if a CF or C2 stands there; and of a record, but of an ST none
abbrev pub opening_lines : Session → Bool → List Line
opening_lines s settings = when settings [] (settings_line_of s.sequence s.engine.settings.width s.engine.settings.beats ∷ [])

abbrev pub record_lines : Effect → List Line
record_lines e = when (under_way e.session.mode) [] (e.line ∷ [])

-- the lines of the next record
abbrev pub next_lines : ℕ → List ℕ → Replay → List Line
next_lines base input r = record_lines (record_turn_of r.session (base + r.at) input r.at r.lent).effect

-- the lines of one turn
abbrev pub turn_lines : ℕ → List ℕ → Replay → Mode → List Line
turn_lines base input r Start = opening_lines r.session (settings_at input r.at)
turn_lines base input r Records = next_lines base input (handed input r)
turn_lines base input r (Steps left taken) = (step_line_of r.session left taken r.lent).effect.line ∷ []
turn_lines base input r Over = []

-- a replay whose text was taken away
abbrev pub cleared : Replay → Replay
cleared r = replay_as r.session r.at r.lent []

-- the lines of turns on the part of a trace that stands at `base`, until none can be taken, or of n
unfoldable pub lines_from : ℕ → ℕ → List ℕ → Replay → List Line
lines_from zero base input r = []
lines_from (suc n) base input r =
    elim (ready_in input true r) [ true ↦ turn_lines base input r r.session.mode ++ lines_from n base input (cleared (turn_on base input r)) | false ↦ [] ]

-- the lines of a listing, under its header
abbrev pub lines_of : List ℕ → List Line
lines_of input = lines_from (suc (most_turns * length input)) 0 input at_start
