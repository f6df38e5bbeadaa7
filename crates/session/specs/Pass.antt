-- RULES.md, "Trace and listing": turns on a part of a trace, and what a pass over it gives.
use Rattle.std.specs.Prelude.{ℕ, zero, suc, ◌+◌, ◌-◌, ◌<◌, ◌≤◌, ◌≡◌, Bool, true, false, not, List, [], Some, ◌++◌, length, drop, eqb, leb, ltb}
use Rattle.kit.specs.Choice.{when, both}
use Rattle.state.specs.declared.engine.Engine.{Engine}
use Rattle.digits.specs.Puts.{Puts}
use Rattle.listing.specs.Line.{line_of}
use Rattle.digits.specs.Puts.{Puts}
use Rattle.record.specs.declared.reading.Body.{Body}
use Rattle.record.specs.Reading.{reading_of}
use Rattle.record.specs.Starts.{settings_at}
use Rattle.record.specs.Mark.{letters}
use Rattle.record.specs.Follows.{follows_of}
use Rattle.record.specs.Claims.{longest}
use Rattle.session.specs.declared.chosen.Chosen.{Chosen}
use Rattle.session.specs.declared.Mode.{Mode}
use Rattle.session.specs.declared.Mode.TheVariants.{Start, Records, Steps, Over}
use Rattle.session.specs.declared.Session.{Session}
use Rattle.session.specs.declared.Passed.{Passed}
use Rattle.session.specs.declared.AfterPass.{AfterPass}
use Rattle.session.specs.Chosen.{two_of, turned_of, called_of, with_settings}
use Rattle.session.specs.Effect.{Lent, lend, After, text_of, with_engine, with_mode, with_chosen, opening_of}
use Rattle.session.specs.Stepping.{step_line_of}
use Rattle.session.specs.Turn.{Turn, stale_of, record_turn_of}

-- a turn can be taken: a step is under way, or a whole record is left, or at the trace's end any byte
abbrev pub ready_of : Mode → ℕ → Bool → Bool
ready_of (Steps n taken) left ended = true
ready_of Over left ended = false
ready_of Start left ended = when ended (ltb 0 left) (leb longest left)
ready_of Records left ended = when ended (ltb 0 left) (leb longest left)

-- a replay so far: the session, the next record's place, what is lent, and the text of the lines
pub record Replay : Type 0 where
  pub session : Session
  pub at : ℕ
  pub lent : Lent
  pub text : List ℕ

abbrev pub replay_as : Session → ℕ → Lent → List ℕ → Replay
replay_as s at lent text = record { session = s; at = at; lent = lent; text = text }

abbrev pub begin_with : Session → Lent → Replay
begin_with s lent = replay_as s 0 lent []

abbrev pub begin : Session → List ℕ → List ℕ → Engine → Replay
begin s m w o = begin_with s (lend m w o)

abbrev pub record_on : Replay → Turn → Replay
record_on r t = replay_as t.effect.session t.at t.lent (r.text ++ text_of t.effect.session.mode t.effect.line)

abbrev pub step_on : Replay → After → Replay
step_on r a = replay_as a.effect.session r.at a.lent (r.text ++ line_of a.effect.line)

abbrev pub open_on : Replay → Bool → Replay
open_on r settings = replay_as (with_mode r.session Records) r.at r.lent (r.text ++ opening_of r.session settings)

-- the other engine is chosen: the two change places, and have the same settings
abbrev pub swapped_with : Session → Engine → Session
swapped_with s o = with_chosen (with_engine s s.sequence (with_settings s.engine.settings o)) (turned_of s.chosen)

abbrev pub swapped : Replay → Replay
swapped r =
    replay_as (swapped_with r.session r.lent.other) r.at (lend r.lent.memory r.lent.windows r.session.engine) r.text

-- the engine that the next record is for is chosen
abbrev pub handed : List ℕ → Replay → Replay
handed input r = when (called_of r.session.chosen input r.at) (swapped r) r

-- the next record
abbrev pub next_on : ℕ → List ℕ → Replay → Replay
next_on base input r = record_on r (record_turn_of r.session (base + r.at) input r.at r.lent)

-- one turn more, on the part of a trace that stands at `base`: what comes before the first record, the next record, or a
-- line of the ST that is under way
abbrev pub turn_by : ℕ → List ℕ → Replay → Mode → Replay
turn_by base input r Start = open_on r (settings_at input r.at)
turn_by base input r Records = next_on base input (handed input r)
turn_by base input r (Steps left taken) = step_on r (step_line_of r.session left taken r.lent)
turn_by base input r Over = r

unfoldable pub turn_on : ℕ → List ℕ → Replay → Replay
turn_on base input r = turn_by base input r r.session.mode

-- n turns
unfoldable pub turns_of : ℕ → ℕ → List ℕ → Replay → Replay
turns_of zero base input r = r
turns_of (suc n) base input r = turn_on base input (turns_of n base input r)

-- a turn can be taken on what is left of the part
abbrev pub ready_in : List ℕ → Bool → Replay → Bool
ready_in input ended r = ready_of r.session.mode (length input - r.at) ended

-- no line is longer: a turn is taken only while the buffer has this room left
abbrev pub line_room : ℕ
line_room = 64

-- a turn can be taken, and there is room for its line after the text so far, if `room` bytes were there for all
abbrev pub goes_on : ℕ → List ℕ → Bool → Replay → Bool
goes_on room input ended r = both (leb (length r.text + line_room) room) (ready_in input ended r)

-- a pass takes turns as long as it can go on, no fewer and no more, and the buffer holds their text
pub record Passes (s : Session) (o : Engine) (base : ℕ) (input : List ℕ) (ended : Bool) (m w out : List ℕ) (r : AfterPass) (m' w' out' : List ℕ) : Type 0 where
  pub turns : ℕ
  pub text : List ℕ
  pub goes : (k : ℕ) → k < turns → goes_on (length out) input ended (turns_of k base input (begin s m w o)) ≡ true
  pub stops : goes_on (length out) input ended (turns_of turns base input (begin s m w o)) ≡ false
  pub ends : replay_as r.session r.at (lend m' w' r.other) text ≡ turns_of turns base input (begin s m w o)
  -- all of the text was put, at the buffer's front; the bytes past it are unchanged
  pub put : r.put ≡ length text
  pub fits : r.put ≤ length out
  pub stored : out' ≡ text ++ drop r.put out

-- two results that `Passes` allows for the same call are equal
abbrev pub PassUnique : Type 0
PassUnique = (s : Session) (o : Engine) (base : ℕ) (input : List ℕ) (ended : Bool) (m w out : List ℕ) (r r' : AfterPass) (m₁ w₁ out₁ m₂ w₂ out₂ : List ℕ)
    → Passes s o base input ended m w out r m₁ w₁ out₁ → Passes s o base input ended m w out r' m₂ w₂ out₂
    → (r ≡ r') × (m₁ ≡ m₂) × (w₁ ≡ w₂) × (out₁ ≡ out₂)

-- a record comes next, and it is for the other engine
abbrev pub calls_other : Mode → Chosen → List ℕ → ℕ → Bool
calls_other Start c input at = false
calls_other Records c input at = called_of c input at
calls_other (Steps left taken) c input at = false
calls_other Over c input at = false

-- the record at `at` was read, its sequence number is not stale, the engine that it is for is chosen, and a pass may take it
pub record InOrder (base : ℕ) (input : List ℕ) (ended : Bool) (s : Session) (at sequence : ℕ) (body : Body) (next : ℕ) : Type 0 where
  pub read : reading_of input at (eqb (base + at) 0) (two_of s.chosen) ≡ Some (record { sequence = sequence; body = body }, next)
  pub rises : stale_of s.sequence sequence body ≡ false
  pub hand : called_of s.chosen input at ≡ false
  pub mode : s.mode ≡ Records
  pub ready : ready_of Records (length input - at) ended ≡ true

-- a pass goes on with a record of this mark and size: there is room for its line, and it is there, whole and in sequence
abbrev pub goes_on_with : List ℕ → ℕ → Bool → ℕ → ℕ → ℕ → ℕ → ℕ → Bool
goes_on_with input at ended put room mark size before =
    both (leb (put + line_room) room) (both (ready_of Records (length input - at) ended) (follows_of input at mark size before))

-- the same of a WR: in a trace of two engines the next one may be for the other engine, and is left to the next turn
abbrev pub goes_on_writing : Chosen → List ℕ → ℕ → Bool → ℕ → ℕ → ℕ → Bool
goes_on_writing c input at ended put room before = both (not (two_of c)) (goes_on_with input at ended put room (letters 87 82) 12 before)

-- some turns, one at least, from the session s and the record's place `at` on: each could be taken, and their text was put
-- into the buffer from `put` on
pub record Takes (base : ℕ) (input : List ℕ) (ended : Bool) (s : Session) (at : ℕ) (lent : Lent) (out : List ℕ) (put : ℕ) (r : Passed) (lent' : Lent) (out' : List ℕ) : Type 0 where
  pub turns : ℕ
  pub text : List ℕ
  pub some : 1 ≤ turns
  pub goes : (k : ℕ) → k < turns → goes_on (length out - put) input ended (turns_of k base input (replay_as s at lent [])) ≡ true
  pub ends : replay_as r.session r.at lent' text ≡ turns_of turns base input (replay_as s at lent [])
  pub puts : Puts out out' put r.put text
  pub fits : r.put ≤ length out

-- the same, of turns that leave what is lent as it is, whatever that is
abbrev pub TakesOnly : ℕ → List ℕ → Bool → Session → ℕ → List ℕ → ℕ → Passed → List ℕ → Type 0
TakesOnly base input ended s at out put r out' = (lent : Lent) → Takes base input ended s at lent out put r lent out'

-- the same, of turns that leave the other engine as it is: from the memory m and the windows w to m' and w'
abbrev pub TakesBeside : ℕ → List ℕ → Bool → Session → ℕ → List ℕ → List ℕ → List ℕ → ℕ → Passed → List ℕ → List ℕ → List ℕ → Type 0
TakesBeside base input ended s at m w out put r m' w' out' = (o : Engine) → Takes base input ended s at (lend m w o) out put r (lend m' w' o) out'

-- the same, of the lines of an ST: they need no input
abbrev pub TakesSteps : Session → ℕ → List ℕ → List ℕ → List ℕ → ℕ → Passed → List ℕ → List ℕ → Type 0
TakesSteps s at m w out put r m' out' = (base : ℕ) (input : List ℕ) (ended : Bool) → at ≤ length input → TakesBeside base input ended s at m w out put r m' w out'
