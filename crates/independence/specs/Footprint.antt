-- RULES.md, "Two engines": the bytes that a step reads and those that it writes, and that nothing else of the memory
-- matters to it or changes. Proved in proofs/Footprint.antt.
use Rattle.std.specs.Prelude.{◌≡◌, ℕ, zero, suc, true, false, List, [], ◌∷◌, length, get_or}
use Rattle.kit.specs.Settings.{among}
use Rattle.memory.specs.declared.window.Window.{Window}
use Rattle.memory.specs.declared.verdict.Verdict.{Verdict}
use Rattle.memory.specs.declared.verdict.Verdict.TheVariants.{Okay, Slave, Decode}
use Rattle.memory.specs.Verdict.{group_of}
use Rattle.state.specs.declared.engine.Engine.{Engine}
use Rattle.state.specs.declared.engine.Phase.{Phase}
use Rattle.state.specs.declared.engine.Phase.TheVariants.{Idle, Fetch, Move, Update}
use Rattle.state.specs.Descriptor.{descriptor_bytes}
use Rattle.steps.specs.Step.{AfterAdvance, read_place, write_place, next_bytes, burst_answer, status_place, advance_of}

-- ---- the footprint of a step

-- the n bytes from a on
abbrev pub bytes_from : ℕ → ℕ → List ℕ
bytes_from a zero = []
bytes_from a (suc n) = a ∷ bytes_from (suc a) n

-- where the n bytes of a transfer from byte k on lie, on one of its sides
abbrev pub places_from : (ℕ → ℕ) → ℕ → ℕ → List ℕ
places_from place k zero = []
places_from place k (suc n) = place k ∷ places_from place (suc k) n

-- bytes that are only judged are neither read nor written: unless the answer is OKAY there are none
abbrev pub if_okay : Verdict → List ℕ → List ℕ
if_okay Okay places = places
if_okay Slave places = []
if_okay Decode places = []

-- a good fetch reads its descriptor, and a move that writes its source bytes: on a fixed side those of the word that it uses
abbrev pub reads_by : Engine → ℕ → List Window → Phase → List ℕ
reads_by s size windows Idle = []
reads_by s size windows Fetch =
    if_okay (group_of size windows s.pointers.current descriptor_bytes) (bytes_from s.pointers.current descriptor_bytes)
reads_by s size windows (Move t) =
    if_okay (burst_answer s t size windows (next_bytes s t)) (places_from (read_place s.settings s.control.keyholeread t) t.moved (next_bytes s t))
reads_by s size windows (Update outcome) = []

-- a move writes its destination bytes, and an update its status word
abbrev pub writes_by : Engine → ℕ → List Window → Phase → List ℕ
writes_by s size windows Idle = []
writes_by s size windows Fetch = []
writes_by s size windows (Move t) =
    if_okay (burst_answer s t size windows (next_bytes s t)) (places_from (write_place s.settings s.control.keyholewrite t) t.moved (next_bytes s t))
writes_by s size windows (Update outcome) = if_okay (group_of size windows (status_place s) 4) (bytes_from (status_place s) 4)

-- what the next step of an engine reads and writes, on a memory of `size` bytes
unfoldable pub reads_of : Engine → ℕ → List Window → List ℕ
reads_of s size windows = reads_by s size windows s.phase

unfoldable pub writes_of : Engine → ℕ → List Window → List ℕ
writes_of s size windows = writes_by s size windows s.phase

-- ---- two laws of every step, whatever the state, the memory and the windows

-- it changes only what it writes
abbrev pub ChangesOnly : Type 0
ChangesOnly = (s : Engine) (m : List ℕ) (windows : List Window) (x : ℕ) → among x (writes_of s (length m) windows) ≡ false
    → get_or (advance_of s m windows).memory x 0 ≡ get_or m x 0

-- two steps tell the same, leave the same state, and wrote the same to these bytes
pub record Same (places : List ℕ) (r r' : AfterAdvance) : Type 0 where
  pub event : r.event ≡ r'.event
  pub engine : r.engine ≡ r'.engine
  pub written : (x : ℕ) → among x places ≡ true → get_or r.memory x 0 ≡ get_or r'.memory x 0

-- it depends on the memory only through what it reads: so it goes on two memories of one length that agree there
abbrev pub DependsOnly : Type 0
DependsOnly = (s : Engine) (m m' : List ℕ) (windows : List Window) → length m ≡ length m'
    → ((x : ℕ) → among x (reads_of s (length m) windows) ≡ true → get_or m x 0 ≡ get_or m' x 0)
    → Same (writes_of s (length m) windows) (advance_of s m windows) (advance_of s m' windows)
