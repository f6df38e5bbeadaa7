use mathlib.Core.Path.{ap₂, ◌∙◌}
use Rattle.kit.specs.Choice.{either}
use Rattle.memory.proofs.Pairs.{pair-on}
use Rattle.memory.proofs.verdict.any_meets.Goals as goal

pub loop-pair-preserved : goal.loop-pair-preserved
loop-pair-preserved c =
    let v = c.loop-pair in
    let s = c.in-Some.ensures.steps in
    let here = rw c.window_in-window.ensures at (c.either-here.ensures ∙ ap₂ either c.meets.ensures c.meets-in-loop-pair.ensures) in
    (s.0 ∙ v.invariant.0, pair-on _ _ _ s.1.0 (s.1.1 ∙ v.invariant.0) _ _ _ _ v.met here c.either-met.ensures ∙ v.invariant.1)
