-- The worked transfers with a fixed side, by computing them.
use mathlib.Core.Path.{refl}
use mathlib.Core.Logic.{inl, inr}
use native.Mathlib.Omega.{arith}
use Rattle.kit.specs.Settings.{legal_width, legal_beats}
use Rattle.kit.proofs.Choice.{never}
use Rattle.cut.specs.Cut.{reach, burst_end}
use Rattle.memory.specs.Windows.{sick}
use Rattle.memory.specs.Verdict.{group_of}
use Rattle.sides.specs.Sides.{side_answer, side_read, side_written}
use Rattle.state.specs.State.{well_formed_of}
use Rattle.registers.specs.Write.{register_written_of}
use Rattle.steps.specs.Step.{accept_of, advance_of}
use Rattle.claims.specs.WorkedHoles.{DrainWorked, PushWorked, PassWorked}

pub drain-worked : DrainWorked
unfolding legal_width legal_beats reach burst_end sick group_of well_formed_of register_written_of accept_of advance_of side_answer side_read side_written
drain-worked = record {
  completes = record { legal = refl; well = refl; before = refl; starts = refl; runs = (refl, refl, (refl, refl, (refl, refl, refl))); good = refl };
  alone = record { own = (refl, (refl, tt)); apart = inl (omega arith); misses = λ e. absurd (never e) };
  moves = refl;
  takes = refl;
  fills = refl;
}

pub push-worked : PushWorked
unfolding legal_width legal_beats reach burst_end sick group_of well_formed_of register_written_of accept_of advance_of side_answer side_read side_written
push-worked = record {
  completes = record { legal = refl; well = refl; before = refl; starts = refl; runs = (refl, refl, (refl, refl, (refl, refl, refl))); good = refl };
  alone = record { own = (refl, (refl, (refl, (refl, tt)))); apart = inl (omega arith); misses = λ _. inr (omega arith) };
  moves = refl;
  takes = refl;
  keeps = refl;
}

pub pass-worked : PassWorked
unfolding legal_width legal_beats reach burst_end sick group_of well_formed_of register_written_of accept_of advance_of side_answer side_read side_written
pass-worked = record {
  completes = record { legal = refl; well = refl; before = refl; starts = refl; runs = (refl, refl, refl); good = refl };
  alone = record { own = (refl, tt); apart = inl (omega arith); misses = λ e. absurd (never e) };
  moves = refl;
  takes = refl;
  keeps = refl;
}
