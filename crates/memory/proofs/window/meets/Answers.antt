use mathlib.Core.Path.{ap₂, ◌∙◌}
use Prim.Native.Nat.{ℕ}
use lib.Dec.{ltb}
use Rattle.kit.specs.Choice.{both}
use Rattle.memory.proofs.Touch.{touches-gaps}
use Rattle.memory.proofs.window.meets.Goals as goal

-- The test of one window by distances meets its contract: it is the test of the ends.
pub returns : goal.returns
returns c =
    let a = c.args in
    c.both.ensures
    ∙ ap₂ (λ (x y : ℕ). both (ltb x a.window.length) (ltb y a.bytes)) c.saturating_sub.ensures c.saturating_sub-2.ensures
    ∙ touches-gaps a.window a.start a.bytes c.requires
