-- RULES.md, "Descriptor and steps", move: what bursts of a transfer, moved on their own, are to an engine in its midst.
use Rattle.std.specs.Prelude.{◌≡◌, ℕ, ◌+◌, min, Bool, true, false, List, eqb, Option, Some, None}
use Rattle.kit.specs.Choice.{when}
use Rattle.kit.specs.declared.settings.Settings.{Settings}
use Rattle.cut.specs.declared.Burst.{Burst}
use Rattle.memory.specs.declared.window.Window.{Window}
use Rattle.memory.specs.Good.{good_bytes}
use Rattle.state.specs.declared.engine.Engine.{Engine}
use Rattle.state.specs.declared.engine.Transfer.{Transfer}
use Rattle.state.specs.declared.engine.Phase.TheVariants.{Move}
use Rattle.state.specs.State.{busy_of, with_phase}
use Rattle.steps.specs.declared.event.Event.{Event}
use Rattle.steps.specs.declared.event.Event.TheVariants.{Move as MoveEvent}
use Rattle.steps.specs.Step.{AfterAdvance, reads_at, writes_at, continue_or_finish_of, advance_of}
use Rattle.moves.specs.declared.glide.Glided.{Glided}

-- the transfer with `moved` bytes moved
abbrev pub moved_to : Transfer → ℕ → Transfer
moved_to t moved = record { source = t.source; destination = t.destination; total = t.total; moved = moved }

-- an engine with these settings, these key hole bits, and in the midst of this transfer
pub record Moving (settings : Settings) (reads writes : Bool) (t : Transfer) (s : Engine) : Type 0 where
  pub set : s.settings ≡ settings
  pub source : s.control.keyholeread ≡ reads
  pub destination : s.control.keyholewrite ≡ writes
  pub phase : s.phase ≡ Move t

-- a burst: the step of every such engine whose sides both increment moves it, and leaves the engine as it was but for the bytes moved. None: the memory is as it was
abbrev pub MovesOn : Settings → Transfer → List Window → List ℕ → Option Burst → List ℕ → Type 0
MovesOn settings t windows m (Some b) after =
    (s : Engine) → Moving settings false false t s
    → advance_of s m windows ≡ record { event = MoveEvent b; engine = with_phase s (Move (moved_to t (t.moved + b.bytes))); memory = after }
MovesOn settings t windows m None after = after ≡ m

-- the bytes that are good both where the transfer's next burst is read and where it is written, if both sides increment
abbrev pub good_ahead : ℕ → List Window → Transfer → ℕ
good_ahead size windows t = min (good_bytes size windows (reads_at t)) (good_bytes size windows (writes_at t))

-- n steps of a busy engine lead from r to a state
pub data Reaches (windows : List Window) (r : AfterAdvance) : ℕ → AfterAdvance → Type 0 where
  none : Reaches windows r 0 r
  more : {n : ℕ} {s : AfterAdvance} → Reaches windows r n s → busy_of s.engine.phase ≡ true
      → Reaches windows r (n + 1) (advance_of s.engine s.memory windows)

-- what bursts leave of an engine whose last event was e: the last burst's event, if there was one, and the bytes moved
abbrev pub after_bursts : Engine → Event → Transfer → Glided → List ℕ → AfterAdvance
after_bursts s e t r m = record { event = when (eqb r.steps 0) e (MoveEvent r.last); engine = continue_or_finish_of s t r.moved; memory = m }

-- the bursts are steps of every such engine
abbrev pub Glides : Settings → Bool → Bool → Transfer → List Window → List ℕ → Glided → List ℕ → Type 0
Glides settings reads writes t windows m r after =
    (s : Engine) (e : Event) → Moving settings reads writes t s → Reaches windows (record { event = e; engine = s; memory = m }) r.steps (after_bursts s e t r after)
