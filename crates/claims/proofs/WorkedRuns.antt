-- The worked runs, by computing them.
use mathlib.Core.Path.{◌≡◌, refl}
use mathlib.Core.Bool.{Bool, true}
use mathlib.Core.List.{List, [], ◌∷◌}
use Prim.Native.Nat.{ℕ, zero, suc}
use native.Mathlib.Omega.{arith}
use lib.Dec.{ltb}
use borrow.Author.Tests.{ltb-true}
use Rattle.kit.specs.Choice.{both}
use Rattle.kit.specs.Settings.{legal_width, legal_beats}
use Rattle.kit.proofs.Choice.{both_left, both_right}
use Rattle.cut.specs.Cut.{reach, burst_end}
use Rattle.memory.specs.Windows.{sick}
use Rattle.memory.specs.Verdict.{group_of}
use Rattle.sides.specs.Sides.{side_answer, side_read, side_written}
use Rattle.state.specs.State.{well_formed_of}
use Rattle.registers.specs.Write.{register_written_of}
use Rattle.steps.specs.Step.{accept_of, advance_of}
use Rattle.steps.specs.Claims.{Bytes}
use Rattle.runs.specs.Run.{refusal_of, walk_from, run_of}
use Rattle.claims.specs.Events.{events_from, events_of}
use Rattle.claims.specs.WorkedRuns.{before, RunsWorked}

-- a test that every element is a byte
small : List ℕ → Bool
small [] = true
small (x ∷ more) = both (ltb x 256) (small more)

small_bytes : (m : List ℕ) → small m ≡ true → Bytes m
unfolding small side_answer side_read side_written
small_bytes [] e i = omega arith
small_bytes (x ∷ more) e zero = ltb-true x 256 (both_left (ltb x 256) (small more) e)
small_bytes (x ∷ more) e (suc i) = small_bytes more (both_right (ltb x 256) (small more) e) i

pub runs-worked : RunsWorked
unfolding small legal_width legal_beats reach burst_end sick group_of well_formed_of register_written_of accept_of advance_of refusal_of walk_from run_of events_from events_of side_answer side_read side_written
runs-worked = record {
  premise = small_bytes before refl;
  answers = (refl, refl, refl);
  steps = (refl, refl, refl);
  midway = (refl, refl);
  engine = (refl, refl);
  memory = (refl, refl);
  first_events = refl;
  second_events = refl;
  whole_events = refl;
  several = refl;
  refused = refl;
}
