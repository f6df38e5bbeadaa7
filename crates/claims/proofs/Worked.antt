-- The worked transfers, by computing them.
use mathlib.Core.Path.{refl}
use mathlib.Core.Logic.{inl, inr}
use native.Mathlib.Omega.{arith}
use Rattle.kit.specs.Settings.{legal_width, legal_beats}
use Rattle.kit.proofs.Choice.{never}
use Rattle.cut.specs.Cut.{reach, burst_end}
use Rattle.memory.specs.Windows.{sick}
use Rattle.memory.specs.Verdict.{group_of}
use Rattle.sides.specs.Sides.{side_answer, side_read, side_written}
use Rattle.state.specs.State.{well_formed_of}
use Rattle.registers.specs.Write.{register_written_of}
use Rattle.steps.specs.Step.{accept_of, advance_of}
use Rattle.claims.specs.Worked.{SimpleWorked, SimpleCleared, SimpleControlled, ChainWorked, ChainReplaced}

pub simple-worked : SimpleWorked
unfolding legal_width legal_beats reach burst_end sick group_of well_formed_of register_written_of accept_of advance_of side_answer side_read side_written
simple-worked = record {
  completes = record {
    legal = refl;
    well = refl;
    before = refl;
    starts = refl;
    runs = (refl, refl, (refl, refl, (refl, refl, (refl, refl, (refl, refl, (refl, refl, refl))))));
    good = refl;
  };
  alone = record { own = (refl, (refl, tt)); apart = inl (omega arith); misses = λ e. absurd (never e) };
  moves = refl;
  takes = refl;
}

pub simple-cleared : SimpleCleared
unfolding legal_width legal_beats reach burst_end sick group_of well_formed_of register_written_of advance_of side_answer side_read side_written
simple-cleared = (refl, refl, refl)

pub simple-controlled : SimpleControlled
unfolding legal_width legal_beats reach burst_end sick group_of well_formed_of register_written_of advance_of side_answer side_read side_written
simple-controlled = (refl, refl, refl)

pub chain-worked : ChainWorked
unfolding legal_width legal_beats reach burst_end sick group_of well_formed_of register_written_of accept_of advance_of side_answer side_read side_written
chain-worked = record {
  completes = record {
    legal = refl;
    well = refl;
    before = refl;
    starts = refl;
    runs = (refl, refl, (refl, refl, (refl, refl, (refl, refl, (refl, refl, (refl, refl, refl))))));
    good = refl;
  };
  alone = record { own = (refl, (refl, (refl, (refl, tt)))); apart = inl (omega arith); misses = λ _. inr (omega arith) };
  moves = refl;
  takes = refl;
}

pub chain-replaced : ChainReplaced
unfolding legal_width legal_beats reach burst_end sick group_of well_formed_of register_written_of accept_of advance_of side_answer side_read side_written
chain-replaced = (refl, refl)
