-- RULES.md, "Descriptor and steps", key hole: how far a transfer with a fixed side is known to be good, and which of its pieces can be moved as one.
use Rattle.std.specs.Prelude.{◌≡◌, ℕ, ◌+◌, ◌-◌, ◌*◌, ◌≤◌, min, Bool, true, List, ltb}
use Rattle.kit.specs.Choice.{when}
use Rattle.kit.specs.Limits.{most_bytes}
use Rattle.kit.specs.declared.settings.Settings.{Settings}
use Rattle.memory.specs.declared.window.Window.{Window}
use Rattle.memory.specs.Good.{good_bytes}
use Rattle.sides.specs.Sides.{side_bytes, Apart}
use Rattle.state.specs.declared.engine.Transfer.{Transfer}
use Rattle.steps.specs.Step.{bytes_by}

-- the bytes from byte k on that are known to be good on a side: on a fixed one any number, if all of its word is good
abbrev pub good_side : ℕ → List Window → ℕ → Bool → ℕ → ℕ → ℕ
good_side size windows w fixed start k =
    when fixed (when (ltb (good_bytes size windows start) w) 0 most_bytes) (good_bytes size windows (start + k))

-- and on both sides of a transfer
abbrev pub good_sides : ℕ → List Window → ℕ → Bool → Bool → Transfer → ℕ
good_sides size windows w reads writes t =
    min (good_side size windows w reads t.source t.moved) (good_side size windows w writes t.destination t.moved)

-- n pieces of one length, known to be good, come next, to a fixed destination from which no byte of the transfer is read
pub record PiecesAhead (settings : Settings) (reads writes : Bool) (t : Transfer) (size : ℕ) (windows : List Window) (most n : ℕ) : Type 0 where
  pub fixed : writes ≡ true
  pub apart : Apart t.source (side_bytes reads settings.width t.total) t.destination settings.width
  pub few : n ≤ most
  pub whole : n * bytes_by settings writes t ≤ t.total - t.moved
  pub good : n * bytes_by settings writes t ≤ good_sides size windows settings.width reads writes t
