-- The worked pairs, by computing them.
use mathlib.Core.Path.{refl, ap}
use mathlib.Core.List.{List}
use Prim.Native.Nat.{ℕ}
use native.Mathlib.Omega.{arith}
use lib.ListN.{get_or}
use Rattle.kit.specs.Settings.{legal_width, legal_beats}
use Rattle.cut.specs.Cut.{reach, burst_end}
use Rattle.memory.specs.Windows.{sick}
use Rattle.memory.specs.Verdict.{group_of}
use Rattle.sides.specs.Sides.{side_answer, side_read, side_written}
use Rattle.places.specs.Places.{lowest_of}
use Rattle.state.specs.State.{well_formed_of}
use Rattle.reads.specs.Read.{register_of}
use Rattle.registers.specs.Write.{register_written_of}
use Rattle.steps.specs.Step.{accept_of, advance_of}
use Rattle.independence.specs.Footprint.{reads_of, writes_of}
use Rattle.independence.specs.Independence.{alone_of, together_of}
use Rattle.independence.specs.Worked.{SeparateWorked, SourceWorked, StatusWorked, JudgedWorked, FixedWorked}

pub separate-worked : SeparateWorked
unfolding legal_width legal_beats reach burst_end sick group_of well_formed_of register_of register_written_of accept_of advance_of side_answer side_read side_written reads_of writes_of alone_of together_of
separate-worked = record {
  premise = refl;
  reads = (refl, refl);
  writes = (refl, refl);
  courses = (refl, refl);
  one_first = refl;
  two_first = refl;
  in_turn = refl;
  interleaves = record { firsts = refl; seconds = refl };
}

pub source-worked : SourceWorked
unfolding legal_width legal_beats reach burst_end sick group_of well_formed_of register_written_of accept_of advance_of side_answer side_read side_written reads_of writes_of alone_of together_of
source-worked = record {
  premise = refl;
  one_first = refl;
  two_between = refl;
  completes = refl;
  status = refl;
  uncopied = λ copied. omega (arith, copied.bytes 4 (omega arith));
  barred = λ own. omega (arith, ap (λ (l : List ℕ). get_or l 36 0) own.1.0);
}

pub status-worked : StatusWorked
unfolding legal_width legal_beats reach burst_end sick group_of well_formed_of register_written_of accept_of advance_of side_answer side_read side_written reads_of writes_of alone_of together_of
status-worked = record { premise = refl; reads = refl; writes = (refl, refl); one_first = refl; two_first = refl }

pub judged-worked : JudgedWorked
unfolding legal_width legal_beats reach burst_end sick group_of well_formed_of register_written_of accept_of advance_of side_answer lowest_of side_read side_written reads_of writes_of alone_of together_of
judged-worked = record { premise = refl; reads = refl; writes = refl; two_first = refl; in_turn = refl }

pub fixed-worked : FixedWorked
unfolding legal_width legal_beats reach burst_end sick side_answer reads_of writes_of
fixed-worked = record { drains = (refl, refl); pushes = (refl, refl) }
