-- What a step keeps, whatever the state, the memory and the windows; proofs/ proves each.
use Rattle.std.specs.Prelude.{◌≡◌, ℕ, ◌≤◌, ◌<◌, true, List, length, get_or}
use Rattle.kit.specs.Limits.{most_memory}
use Rattle.kit.specs.Settings.{legal_of}
use Rattle.memory.specs.declared.window.Window.{Window}
use Rattle.state.specs.declared.engine.Engine.{Engine}
use Rattle.state.specs.State.{well_formed_of}
use Rattle.steps.specs.Step.{AfterAdvance, advance_of}

-- every element is a byte, as it is of any memory that a caller lends
abbrev pub Bytes : List ℕ → Type 0
Bytes m = (i : ℕ) → get_or m i 0 < 256

-- what of an engine only a register write changes: the settings, CDMACR, the tail pointer, SA, DA and BTT
pub record Lasts (s x : Engine) : Type 0 where
  pub settings : x.settings ≡ s.settings
  pub control : x.control ≡ s.control
  pub tail : x.pointers.tail ≡ s.pointers.tail
  pub simple : x.simple ≡ s.simple

-- that, the memory's length, and that memory holds bytes
pub record Keeps (s : Engine) (m : List ℕ) (r : AfterAdvance) : Type 0 where
  pub engine : Lasts s r.engine
  pub length : length r.memory ≡ length m
  pub bytes : Bytes m → Bytes r.memory

abbrev pub AdvanceKeeps : Type 0
AdvanceKeeps = (s : Engine) (m : List ℕ) (windows : List Window) → Keeps s m (advance_of s m windows)

-- a well-formed state stays well formed
abbrev pub AdvanceWellFormed : Type 0
AdvanceWellFormed = (s : Engine) (m : List ℕ) (windows : List Window) → legal_of s.settings ≡ true → length m ≤ most_memory → Bytes m
    → well_formed_of s ≡ true → well_formed_of (advance_of s m windows).engine ≡ true
