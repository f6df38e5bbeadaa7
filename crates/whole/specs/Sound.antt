-- What every session of a replay keeps to, so that no step is refused and no window is lost. Proved in proofs/Sound.antt.
use Rattle.std.specs.Prelude.{ℕ, ◌*◌, ◌≤◌, ◌<◌, ◌≡◌, Bool, true, List, length}
use Rattle.kit.specs.Limits.{most_memory, most_windows, address_end}
use Rattle.kit.specs.Settings.{legal_of}
use Rattle.state.specs.declared.engine.Engine.{Engine}
use Rattle.state.specs.State.{well_formed_of}
use Rattle.record.specs.Claims.{Bytes}
use Rattle.session.specs.declared.Mode.TheVariants.{Over}
use Rattle.session.specs.declared.Session.{Session}
use Rattle.session.specs.declared.AfterPass.{AfterPass}
use Rattle.session.specs.Chosen.{with_settings}
use Rattle.session.specs.Effect.{start_of}
use Rattle.session.specs.Stepping.{used_of, accepted_of}
use Rattle.session.specs.Pass.{Replay, turn_on, Passes}
use Rattle.whole.specs.Listing.{start_memory, start_windows, Replays}

-- an engine, the number of sick windows, the memory and the windows' slice
pub record Sound (e : Engine) (used : ℕ) (m w : List ℕ) : Type 0 where
  pub legal : legal_of e.settings ≡ true
  pub well : well_formed_of e ≡ true
  pub source : e.simple.sa < address_end
  pub destination : e.simple.da < address_end
  pub few : used ≤ most_windows
  pub small : length m ≤ most_memory
  pub bytes : Bytes m
  pub room : length w ≡ 2 * most_windows

-- both engines, the chosen one and the other one, which has the same settings
pub record SoundIn (s : Session) (o : Engine) (m w : List ℕ) : Type 0 where
  pub chosen : Sound s.engine s.windows m w
  pub other : Sound (with_settings s.engine.settings o) s.windows m w

pub record Sessions : Type 0 where
  -- the first session is sound, and each turn on bytes keeps it so
  pub start : SoundIn start_of start_of.engine start_memory start_windows
  pub turn : (base : ℕ) (input : List ℕ) → Bytes input → (r : Replay) → SoundIn r.session r.lent.other r.lent.memory r.lent.windows
      → let t = turn_on base input r in SoundIn t.session t.lent.other t.lent.memory t.lent.windows
  -- so a pass hands on a sound session, and every session of a replay is sound
  pub pass : (s : Session) (o : Engine) (base : ℕ) (input : List ℕ) (ended : Bool) (m w out : List ℕ) (r : AfterPass) (m' w' out' : List ℕ)
      → Passes s o base input ended m w out r m' w' out' → Bytes input → SoundIn s o m w → SoundIn r.session r.other m' w'
  pub replay : (input : List ℕ) (place : ℕ) (s : Session) (o : Engine) (m w text : List ℕ) → Bytes input → Replays input place s o m w text
      → SoundIn s o m w
  -- no step of an ST is refused, and it is lent each window
  pub accepted : (s : Session) (o : Engine) (m w : List ℕ) → SoundIn s o m w → accepted_of s.engine s.windows (length m) ≡ true
  pub lent : (s : Session) (o : Engine) (m w : List ℕ) → SoundIn s o m w → used_of s.windows ≡ 2 * s.windows
  -- a session that is over reads no further record and prints no further line
  pub over : (s : Session) (o : Engine) (base : ℕ) (input : List ℕ) (ended : Bool) (m w out : List ℕ) (r : AfterPass) (m' w' out' : List ℕ)
      → Passes s o base input ended m w out r m' w' out' → s.mode ≡ Over
      → (r ≡ record { session = s; other = o; at = 0; put = 0 }) × (m' ≡ m) × (w' ≡ w) × (out' ≡ out)
