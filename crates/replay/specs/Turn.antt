-- What each function of the program does, whatever the system answers it. What a read delivers and whether a write is taken
-- are the system's: they stand here as unknowns.
use Rattle.std.specs.Prelude.{ℕ, ◌+◌, ◌<◌, ◌≡◌, ◌⊎◌, Bool, true, false, List, length, take, ℤ, pos, negsuc}
use Rattle.listing.specs.Line.{header_of}
use Rattle.session.specs.declared.AfterPass.{AfterPass}
use Rattle.session.specs.Pass.{Passes}
use Rattle.flow.specs.declared.flow.Flow.{Flow}
use Rattle.flow.specs.Flow.{room, left_of, pending, Fits, opened_of, after_pass}
use Rattle.flow.specs.Input.{Refills}

-- the header stands at the buffer's front; it is sent
pub record Begins (r : Flow) (out' : List ℕ) : Type 0 where
  pub sent : Bool
  pub header : take (length header_of) out' ≡ header_of
  pub size : length out' ≡ room
  pub is : r ≡ opened_of sent

-- one pass over the pending bytes, at their place in the trace; what it put is sent
pub record Forwards (f : Flow) (b m w out : List ℕ) (r : Flow) (m' w' out' : List ℕ) : Type 0 where
  pub passed : AfterPass
  pub sent : Bool
  pub passes : Passes f.session f.other f.position (pending f b) f.ended m w out passed m' w' out'
  pub is : r ≡ after_pass f passed sent

-- one turn: a refill, and a pass unless the read failed
pub record Flows (f : Flow) (b m w out : List ℕ) (r : Flow) (b' m' w' out' : List ℕ) : Type 0 where
  pub middle : Flow
  pub refills : Refills f b middle b'
  pub stops : middle.over ≡ true → (r ≡ middle) × (m' ≡ m) × (w' ≡ w)
  pub goes : middle.over ≡ false → Forwards middle b' m w out r m' w' out'

-- how many bytes of the trace were read so far
abbrev pub read_of : Flow → ℕ
read_of f = f.position + left_of f

-- the read failed, and was interrupted
abbrev pub interrupted_by : ℤ → Bool → Bool
interrupted_by (pos n) interrupted = false
interrupted_by (negsuc n) interrupted = interrupted

-- the turn has a pass that puts a byte
pub record Prints {f : Flow} {b m w out : List ℕ} {r : Flow} {b' m' w' out' : List ℕ} (t : Flows f b m w out r b' m' w' out') : Type 0 where
  pub passes : t.middle.over ≡ false
  pub puts : 0 < (t.goes passes).passed.put

abbrev pub Interrupted : {f : Flow} {b m w out : List ℕ} {r : Flow} {b' m' w' out' : List ℕ} → Flows f b m w out r b' m' w' out' → Type 0
Interrupted t = interrupted_by t.refills.answer t.refills.interrupted ≡ true

-- a turn is the last, or reads a byte, or prints one, or its read was interrupted: the turns are no more than the bytes of
-- the trace and the listing, the interruptions, and one
abbrev pub Progress : Type 0
Progress = (f : Flow) (b m w out : List ℕ) (r : Flow) (b' m' w' out' : List ℕ) → Fits f b → length out ≡ room
    → (t : Flows f b m w out r b' m' w' out') → (r.over ≡ true) ⊎ ((read_of f < read_of r) ⊎ (Prints t ⊎ Interrupted t))
