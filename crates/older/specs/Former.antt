-- RULES.md, "Trace and listing": how a trace was listed while there was one engine, and that every trace that does not start
-- with C2 lists so still. Proved in proofs/Former.antt.
use Rattle.std.specs.Prelude.{ℕ, zero, suc, ◌+◌, ◌*◌, ◌≡◌, Bool, true, false, List, [], ◌∷◌, ◌++◌, eqb, length}
use Rattle.kit.specs.Choice.{when}
use Rattle.kit.specs.declared.answer.Refusal.TheVariants as answers
use Rattle.kit.specs.Answer.{number_of}
use Rattle.kit.specs.Word.{half_at}
use Rattle.listing.specs.declared.line.Line.{Line}
use Rattle.listing.specs.Line.{header_of}
use Rattle.record.specs.Reading.{Reading}
use Rattle.std.specs.Prelude.{None}
use Rattle.record.specs.Mark.{letters}
use Rattle.record.specs.Reading.{reading_of}
use Rattle.record.specs.Starts.{starts_one, starts_two}
use Rattle.session.specs.declared.Mode.{Mode}
use Rattle.session.specs.declared.Mode.TheVariants.{Start, Records, Steps, Over}
use Rattle.session.specs.Effect.{start_of, settings_line_of, bad_line_of}
use Rattle.session.specs.Turn.{Turn, record_by}
use Rattle.session.specs.Pass.{Replay, ready_in, record_on, turn_on}
use Rattle.whole.specs.Listing.{most_turns, listing_of}
use Rattle.older.specs.Lines.{texts_of, opening_lines, record_lines, turn_lines, cleared}
use Rattle.older.specs.Older.{silent}

-- C2 was no mark: it was refused wherever it stood. No record had an engine number
abbrev pub former_reading : List ℕ → ℕ → Bool → Reading
former_reading s at first = when (eqb (half_at s at) (letters 67 50)) None (reading_of s at first false)

-- a record by what this reading gave: there was no other engine to choose
abbrev pub former_record : List ℕ → Replay → Turn
former_record input r = record_by r.session (0 + r.at) input r.at r.lent (former_reading input r.at (eqb (0 + r.at) 0))

-- a turn: a record so, a step as today; nothing but records and steps comes here
abbrev pub former_turn : List ℕ → Replay → Mode → Replay
former_turn input r Start = turn_on 0 input r
former_turn input r Records = record_on r (former_record input r)
former_turn input r (Steps left taken) = turn_on 0 input r
former_turn input r Over = turn_on 0 input r

-- its lines
abbrev pub former_turn_lines : List ℕ → Replay → Mode → List Line
former_turn_lines input r Start = turn_lines 0 input r Start
former_turn_lines input r Records = record_lines (former_record input r).effect
former_turn_lines input r (Steps left taken) = turn_lines 0 input r (Steps left taken)
former_turn_lines input r Over = turn_lines 0 input r Over

-- the lines of turns until none can be taken, or of n
unfoldable pub former_from : ℕ → List ℕ → Replay → List Line
former_from zero input r = []
former_from (suc n) input r =
    elim (ready_in input true r) [
      | true ↦ former_turn_lines input r r.session.mode ++ former_from n input (cleared (former_turn input r r.session.mode))
      | false ↦ []
    ]

-- of nothing, none; without CF `0 set 4 64`; then the records
abbrev pub former_lines_of : List ℕ → List Line
former_lines_of t = when (eqb (length t) 0) [] (opening_lines start_of (starts_one t) ++ former_from (most_turns * length t) t (silent 64))

abbrev pub former_listing_of : List ℕ → List ℕ
former_listing_of t = header_of ++ texts_of (former_lines_of t)

pub record Former : Type 0 where
  -- a trace that does not start with C2 lists as before
  pub same : (t : List ℕ) → starts_two t ≡ false → listing_of t ≡ former_listing_of t
  -- one that does was refused: the only traces whose listing changes
  pub refused : (t : List ℕ) → starts_two t ≡ true → former_listing_of t ≡ header_of ++ texts_of (settings_line_of 0 4 64 ∷ bad_line_of 0 (number_of answers.Record) 0 ∷ [])
