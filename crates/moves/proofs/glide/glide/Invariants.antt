use Prim.Native.Nat.{◌-◌, ◌≤◌}
use Rattle.memory.specs.Windows.{windows_of}
use Rattle.moves.proofs.Incrementing.{Plain}
use Rattle.moves.proofs.glide.glide.Given as goal

-- Bursts in a row meet their contract. Invariant: those moved so far are steps of every engine in the transfer's midst.
abbrev pub invariant-loop-steps : goal.invariant-loop-steps
invariant-loop-steps l = record {
  few : l.steps ≤ l.most;
  sofar : Plain l.settings l.transfer (windows_of l.windows) l.initial.memory l.memory l.moved l.words l.last l.steps;
}

abbrev pub decreases-loop-steps : goal.decreases-loop-steps
decreases-loop-steps l = l.most - l.steps
