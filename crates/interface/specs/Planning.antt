-- include/belikumba.h, "Plan": what C sees of a plan, and of its count.
use Rattle.std.specs.Prelude.{ℕ, List}
use Rattle.plan.specs.Plan.{Measured, Plan}
use Rattle.interface.specs.declared.planning.PlannedForC.{PlannedForC}

abbrev pub planned_seen : PlannedForC → List ℕ → Plan
planned_seen r places = record { answer = r.answer; bursts = r.bursts; places = places }

abbrev pub counted_seen : PlannedForC → Measured
counted_seen r = record { answer = r.answer; bursts = r.bursts }
