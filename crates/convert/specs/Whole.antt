-- What the turns together have handed over: the converted trace, as far as it was read.
use Rattle.std.specs.Prelude.{ℕ, ◌<◌, ◌≡◌, ◌⊎◌, Bool, true, false, List, [], ◌++◌, length, ℤ, pos, negsuc}
use Rattle.record.specs.Starts.{converted_of}
use Rattle.convert.specs.declared.copying.Copying.{Copying}
use Rattle.convert.specs.Copying.{pending_of, Fits, over_of, ready_of, finished_of}
use Rattle.convert.specs.Turn.{Begins, Turn, read_in, sent_in}

-- the turns so far: all that was read, and all that was handed over, both in order. A turn follows only if the one before it
-- was not the last.
pub data Turns : Copying → List ℕ → List ℕ → List ℕ → Type 0 where
  begun : {s : Copying} {b : List ℕ} → Begins s b → Turns s b [] []
  turned : {s : Copying} {b read sent : List ℕ} {r : Copying} {b' : List ℕ} → Turns s b read sent → over_of s ≡ false
      → (t : Turn s b r b') → Turns r b' (read ++ read_in t) (sent ++ sent_in t)

-- each write of these turns was taken
abbrev pub Taken : {s : Copying} {b read sent : List ℕ} → Turns s b read sent → Type 0
Taken (begun t) = Unit {0}
Taken (turned h going t) = Taken h × ((e : ready_of t.middle ≡ true) → (t.goes e).taken ≡ true)

-- what the bytes read and the bytes handed over have to do with each other. Until what comes before the trace is decided,
-- nothing was sent and all is pending. From then on every trace that starts with the bytes read, or the one that ended with
-- them, is converted to what was sent, what is pending, and the rest.
pub record Converts (s : Copying) (b read sent : List ℕ) : Type 0 where
  pub before : s.decided ≡ false → (sent ≡ []) × (read ≡ pending_of s b)
  pub after : s.decided ≡ true → (rest : List ℕ) → (s.ended ≡ true → rest ≡ [])
      → converted_of (read ++ rest) ≡ sent ++ (pending_of s b ++ rest)
  pub ends : s.ended ≡ true → (s.decided ≡ true) × (pending_of s b ≡ [])

-- there are such turns, and they convert
pub record Reached (s : Copying) (b : List ℕ) : Type 0 where
  pub read : List ℕ
  pub sent : List ℕ
  pub turns : Turns s b read sent
  pub converts : Converts s b read sent

-- a copy that is finished has handed over the converted trace, whole, and all of it was taken
abbrev pub Complete : Type 0
Complete = (s : Copying) (b : List ℕ) → (h : Reached s b) → finished_of s ≡ true → (h.sent ≡ converted_of h.read) × Taken h.turns

-- the read failed, and was interrupted
abbrev pub interrupted_by : ℤ → Bool → Bool
interrupted_by (pos n) interrupted = false
interrupted_by (negsuc n) interrupted = interrupted

-- a turn is the last, or reads a byte, or its read was interrupted: the turns are no more than the bytes of the trace, the
-- interruptions, and one
abbrev pub Progress : Type 0
Progress = (s : Copying) (b : List ℕ) (r : Copying) (b' : List ℕ) → Fits s b → (t : Turn s b r b')
    → (over_of r ≡ true) ⊎ ((0 < length (read_in t)) ⊎ (interrupted_by t.refills.answer t.refills.interrupted ≡ true))
