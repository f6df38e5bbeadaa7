-- What each function of the converter does, whatever the system answers it. What a read delivers and whether a write is taken
-- are the system's: they stand here as unknowns.
use Rattle.std.specs.Prelude.{ℕ, ◌+◌, ◌-◌, ◌≡◌, Bool, true, false, List, [], length, take, drop, ℤ, pos, negsuc}
use Rattle.kit.specs.Choice.{when}
use Rattle.kit.specs.Reading.{Moved}
use Rattle.convert.specs.declared.copying.Copying.{Copying}
use Rattle.convert.specs.Copying.{room, front, pending_of, Fits, opened, ready_of, after_read, going_of, after_write}

-- CF 0 (4,16) was put at the buffer's front
pub record Begins (r : Copying) (b' : List ℕ) : Type 0 where
  pub is : r ≡ opened
  pub fits : Fits r b'

-- one read; all that stood before its place stays
pub record Refills (s : Copying) (b : List ℕ) (r : Copying) (b' : List ℕ) : Type 0 where
  pub answer : ℤ
  pub interrupted : Bool
  pub moved : Moved (room - (front + s.waiting)) answer
  pub is : r ≡ after_read s answer interrupted
  pub kept : take (front + s.waiting) b' ≡ take (front + s.waiting) b
  pub size : length b' ≡ room

-- these bytes, in this order, were handed over for standard output, and the answer was whether all were taken. The kit's
-- contracts do not say what a call writes, so one function says it, `hand_over`, which is that call and nothing else. Only
-- its proof makes one of these.
pub data Handed : List ℕ → Bool → Type 0 where
  handed : (bytes : List ℕ) (taken : Bool) → Handed bytes taken

-- the bytes that go are handed over
pub record Forwards (s : Copying) (b : List ℕ) (r : Copying) : Type 0 where
  pub taken : Bool
  pub hands : Handed (going_of s (pending_of s b)) taken
  pub is : r ≡ after_write s taken

-- one turn: a read, and what is pending goes if it can
pub record Turn (s : Copying) (b : List ℕ) (r : Copying) (b' : List ℕ) : Type 0 where
  pub middle : Copying
  pub refills : Refills s b middle b'
  pub waits : ready_of middle ≡ false → r ≡ middle
  pub goes : ready_of middle ≡ true → Forwards middle b' r

-- the bytes that a read delivered, by its answer
abbrev pub delivered_by : ℤ → Copying → List ℕ → List ℕ
delivered_by (pos n) s b' = take n (drop (front + s.waiting) b')
delivered_by (negsuc n) s b' = []

module _ {s : Copying} {b : List ℕ} {r : Copying} {b' : List ℕ} (t : Turn s b r b') where
  -- what a turn read, and what it handed over
  abbrev pub read_in : List ℕ
  read_in = delivered_by t.refills.answer s b'

  abbrev pub sent_in : List ℕ
  sent_in = when (ready_of t.middle) (going_of t.middle (pending_of t.middle b')) []
