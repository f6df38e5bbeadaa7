-- P1 to P8, S1 to S3 and M1 to M3 of RULES.md, computed.
use mathlib.Core.Path.{refl}
use Rattle.kit.specs.Settings.{legal_width, legal_beats}
use Rattle.cut.specs.Cut.{reach, burst_end, cut_within, cut}
use Rattle.plan.specs.Plan.{measure_of}
use Rattle.memory.specs.Windows.{sick}
use Rattle.memory.specs.Verdict.{group_of}
use Rattle.sides.specs.Sides.{side_answer, side_read, side_written}
use Rattle.state.specs.State.{well_formed_of}
use Rattle.reads.specs.Read.{register_of}
use Rattle.registers.specs.Write.{register_written_of}
use Rattle.steps.specs.Step.{accept_of, advance_of}
use Rattle.runs.specs.Run.{refusal_of, walk_from, run_of}
use Rattle.monitor.specs.Flags.{flag_of, raise, valid_table, held_table, valid_flags, held_flags}
use Rattle.monitor.specs.Monitor.{flags_of}
use Rattle.cases.specs.Cases.{Cases}

pub cases : Cases
unfolding legal_width legal_beats reach burst_end cut_within cut measure_of sick group_of well_formed_of register_of register_written_of accept_of advance_of refusal_of walk_from run_of flag_of raise valid_table held_table valid_flags held_flags flags_of side_answer side_read side_written
cases = record {
  p1 = refl;
  p2 = refl;
  p3 = refl;
  p3-three-places = refl;
  p3-four-places = refl;
  p4 = refl;
  p5 = refl;
  p6 = refl;
  p6-count-two = refl;
  p7 = refl;
  p8 = refl;
  s1-steps = refl;
  s1-status = refl;
  s2-steps = refl;
  s2-memory = refl;
  s3-steps = refl;
  s3-memory = refl;
  m1 = refl;
  m1-unaligned = refl;
  m2 = refl;
  m3 = refl;
  m3-long = refl;
}
