-- RULES.md, "Two engines": what the turns of a trace of two engines do to each of them. Proved in proofs/Engines.antt.
use Rattle.std.specs.Prelude.{ℕ, ◌+◌, ◌≡◌, Bool, true, false, List, eqb}
use Rattle.kit.specs.Settings.{legal_settings}
use Rattle.state.specs.declared.engine.Engine.{Engine}
use Rattle.state.specs.State.{fresh_of}
use Rattle.registers.specs.Write.{write_of}
use Rattle.record.specs.declared.reading.Body.{Body}
use Rattle.record.specs.declared.reading.Body.TheVariants.{Settings, Memory, Window, Write, Read, Steps, Astray, Clock}
use Rattle.record.specs.declared.reading.Record.{Record}
use Rattle.std.specs.Prelude.{Some}
use Rattle.record.specs.Reading.{reading_of}
use Rattle.record.specs.Names.{names_of}
use Rattle.session.specs.declared.chosen.Chosen.{Chosen}
use Rattle.session.specs.declared.chosen.Chosen.TheVariants.{Only, First, Second}
use Rattle.session.specs.declared.Mode.TheVariants as modes
use Rattle.session.specs.Chosen.{two_of, with_settings}
use Rattle.session.specs.Stepping.{step_line_of}
use Rattle.session.specs.Turn.{stale_of}
use Rattle.session.specs.Pass.{Replay, turn_on}
use Rattle.whole.specs.Listing.{at_start}

-- engine 1 and engine 2, of the chosen one and the other one
abbrev pub first_by : Chosen → Engine → Engine → Engine
first_by Only chosen other = chosen
first_by First chosen other = chosen
first_by Second chosen other = other

abbrev pub second_by : Chosen → Engine → Engine → Engine
second_by Only chosen other = other
second_by First chosen other = other
second_by Second chosen other = chosen

-- of a replay; both have the same settings
abbrev pub other_of : Replay → Engine
other_of r = with_settings r.session.engine.settings r.lent.other

abbrev pub first_of : Replay → Engine
first_of r = first_by r.session.chosen r.session.engine (other_of r)

abbrev pub second_of : Replay → Engine
second_of r = second_by r.session.chosen r.session.engine (other_of r)

-- of two engines, the next record is for engine n, and is read and in sequence
pub record NextFor (n base : ℕ) (input : List ℕ) (r : Replay) (sequence : ℕ) (body : Body) : Type 0 where
  pub mode : r.session.mode ≡ modes.Records
  pub two : two_of r.session.chosen ≡ true
  pub names : names_of input r.at n ≡ true
  pub next : ℕ
  pub read : reading_of input r.at (eqb (base + r.at) 0) true ≡ Some ((record { sequence = sequence; body = body }), next)
  pub rises : stale_of r.session.sequence sequence body ≡ false

-- what a record says changes an engine: settings and a WR; the steps of an ST come after it
abbrev pub changes_engine : Body → Bool
changes_engine (Settings two width beats) = true
changes_engine (Memory address count) = false
changes_engine (Window start count) = false
changes_engine (Write offset value) = true
changes_engine (Read offset) = false
changes_engine (Steps count) = false
changes_engine Astray = false
changes_engine (Clock bits clock) = false

-- both are as they were
pub record Keeps (r t : Replay) : Type 0 where
  pub first : first_of t ≡ first_of r
  pub second : second_of t ≡ second_of r

pub record Engines : Type 0 where
  -- C2, after what comes before the first record: two fresh engines with its settings
  pub start : (t : List ℕ) (sequence width beats next : ℕ) → reading_of t 0 true false ≡ Some ((record { sequence = sequence; body = Settings true width beats }), next)
      → legal_settings width beats ≡ true
      → let r = turn_on 0 t (turn_on 0 t at_start) in
      let fresh = fresh_of (record { width = width; beats = beats }) in (two_of r.session.chosen ≡ true) × (first_of r ≡ fresh) × (second_of r ≡ fresh)
  -- a WR, a reset too, writes to its engine and leaves the other one as it was
  pub writes-first : (base : ℕ) (input : List ℕ) (r : Replay) (sequence offset value : ℕ) → NextFor 1 base input r sequence (Write offset value)
      → let t = turn_on base input r in (first_of t ≡ (write_of (first_of r) offset value).engine) × (second_of t ≡ second_of r)
  pub writes-second : (base : ℕ) (input : List ℕ) (r : Replay) (sequence offset value : ℕ) → NextFor 2 base input r sequence (Write offset value)
      → let t = turn_on base input r in (first_of t ≡ first_of r) × (second_of t ≡ (write_of (second_of r) offset value).engine)
  -- every other record leaves both as they were, and so does one that is refused, whatever it is
  pub others : (base : ℕ) (input : List ℕ) (r : Replay) → r.session.mode ≡ modes.Records → two_of r.session.chosen ≡ true
      → ((x : Record) (next : ℕ) → reading_of input r.at (eqb (base + r.at) 0) true ≡ Some (x, next)
      → stale_of r.session.sequence x.sequence x.body ≡ false → changes_engine x.body ≡ false)
      → Keeps r (turn_on base input r)
  -- an ST leaves both as they were until its steps are taken, and these are its engine's
  pub steps_first : (base : ℕ) (input : List ℕ) (r : Replay) (sequence count : ℕ) → NextFor 1 base input r sequence (Steps count)
      → let t = turn_on base input r in Keeps r t × (t.session.mode ≡ modes.Steps count 0) × (t.session.chosen ≡ First)
  pub steps-second : (base : ℕ) (input : List ℕ) (r : Replay) (sequence count : ℕ) → NextFor 2 base input r sequence (Steps count)
      → let t = turn_on base input r in Keeps r t × (t.session.mode ≡ modes.Steps count 0) × (t.session.chosen ≡ Second)
  -- a step of one leaves the other as it was, and is the step of that engine; so is the next one, as the same engine stays chosen
  pub step-first : (base : ℕ) (input : List ℕ) (r : Replay) (left taken : ℕ) → r.session.mode ≡ modes.Steps left taken → r.session.chosen ≡ First
      → let t = turn_on base input r in (first_of t ≡ (step_line_of r.session left taken r.lent).effect.session.engine) × (second_of t ≡ second_of r) × (t.session.chosen ≡ First)
  pub step-second : (base : ℕ) (input : List ℕ) (r : Replay) (left taken : ℕ) → r.session.mode ≡ modes.Steps left taken → r.session.chosen ≡ Second
      → let t = turn_on base input r in (first_of t ≡ first_of r) × (second_of t ≡ (step_line_of r.session left taken r.lent).effect.session.engine) × (t.session.chosen ≡ Second)
