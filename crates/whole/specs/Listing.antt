-- RULES.md, "Trace and listing": the listing of a whole trace, and the replays that give it. Proved in proofs/Listing.antt.
use Rattle.std.specs.Prelude.{ℕ, zero, suc, ◌+◌, ◌-◌, ◌*◌, ◌≡◌, Bool, true, false, List, [], ◌++◌, length, take, drop, replicate}
use Rattle.kit.specs.Limits.{most_windows}
use Rattle.listing.specs.Line.{header_of}
use Rattle.session.specs.declared.Session.{Session}
use Rattle.session.specs.declared.AfterPass.{AfterPass}
use Rattle.state.specs.declared.engine.Engine.{Engine}
use Rattle.session.specs.Effect.{start_of}
use Rattle.session.specs.Stepping.{most_steps}
use Rattle.session.specs.Pass.{ready_of, ready_in, Replay, begin, turn_on, Passes}

-- ---- the listing

-- the replay starts with 32,768 zero bytes and no windows
abbrev pub start_memory : List ℕ
start_memory = replicate 32768 0

abbrev pub start_windows : List ℕ
start_windows = replicate (2 * most_windows) 0

abbrev pub at_start : Replay
at_start = begin start_of start_memory start_windows start_of.engine

-- the text after turns until none can be taken, or after n
unfoldable pub list_from : ℕ → List ℕ → Replay → List ℕ
list_from zero input r = r.text
list_from (suc n) input r = elim (ready_in input true r) [ true ↦ list_from n input (turn_on 0 input r) | false ↦ r.text ]

-- no record gives more turns: an ST, its steps and its stop
abbrev pub most_turns : ℕ
most_turns = most_steps + 2

-- the header, and the lines of the turns: one comes before the first record, and a record has a byte at least
unfoldable pub listing_of : List ℕ → List ℕ
listing_of input = header_of ++ list_from (suc (most_turns * length input)) input at_start

-- ---- replays

-- a replay of the trace by passes over parts of it: `place` bytes were used, and `text` was sent. Each pass is lent a part
-- of what was not used yet, and the session, the other engine, memory and windows as the one before left them; what it put
-- is sent.
pub data Replays (input : List ℕ) : ℕ → Session → Engine → List ℕ → List ℕ → List ℕ → Type 0 where
  begun : Replays input 0 start_of start_of.engine start_memory start_windows header_of
  passed : {place : ℕ} {s : Session} {o : Engine} {m w text : List ℕ} → Replays input place s o m w text
      → (part rest : List ℕ) (ended : Bool) → drop place input ≡ part ++ rest → (ended ≡ true → rest ≡ [])
      → (out : List ℕ) (r : AfterPass) (m' w' out' : List ℕ) → Passes s o place part ended m w out r m' w' out'
      → Replays input (place + r.at) r.session r.other m' w' (text ++ take r.put out')

pub record Listing : Type 0 where
  -- a replay that has come to its end has sent the listing, whatever its parts and buffers were
  pub whole : (input : List ℕ) (place : ℕ) (s : Session) (o : Engine) (m w text : List ℕ) → Replays input place s o m w text
      → ready_of s.mode (length input - place) true ≡ false → text ≡ listing_of input
  -- more turns would change nothing: the listing is not cut off
  pub enough : (input : List ℕ) (k : ℕ) → header_of ++ list_from (suc (most_turns * length input) + k) input at_start ≡ listing_of input
  -- empty input prints the header alone
  pub empty : listing_of [] ≡ header_of
