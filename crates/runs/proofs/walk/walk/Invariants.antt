use mathlib.Core.Path.{◌≡◌}
use Prim.Native.Nat.{◌-◌}
use lib.ListN.{length}
use Rattle.memory.specs.Windows.{windows_of}
use Rattle.steps.specs.Step.{advance_seen}
use Rattle.runs.specs.Run.{walk_from}
use Rattle.runs.proofs.Walks.{Walking}
use Rattle.runs.proofs.walk.walk.Given as goal

abbrev pub invariant-loop-steps : goal.invariant-loop-steps
invariant-loop-steps l = record {
  size : length l.memory ≡ length l.initial.memory;
  walking : Walking l.most l.steps (advance_seen l.last l.memory) (windows_of l.windows) (walk_from l.most 0 (advance_seen l.initial.last l.initial.memory) (windows_of l.windows));
  settings : l.last.engine.settings ≡ l.settings;
  simple : l.last.engine.simple ≡ l.simple;
}

abbrev pub decreases-loop-steps : goal.decreases-loop-steps
decreases-loop-steps l = l.most - l.steps
