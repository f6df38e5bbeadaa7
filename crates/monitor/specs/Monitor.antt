-- RULES.md, "Bus clocks": the monitor's next self, what it reports, and the answers 1 and 13 of a bus clock.
use Rattle.std.specs.Prelude.{ℕ, Result, Ok, Err, false, ◌&&◌, not, eqb}
use Rattle.std.specs.Int.Count.{ones, count_trailing_zeros}
use Rattle.kit.specs.Choice.{when}
use Rattle.kit.specs.Answer.{number_of}
use Rattle.kit.specs.declared.answer.Refusal.{Refusal}
use Rattle.kit.specs.Settings.{legal_settings}
use Rattle.monitor.specs.declared.clock.Clock.{Clock}
use Rattle.monitor.specs.declared.monitor.Monitor.{Monitor}
use Rattle.monitor.specs.declared.monitor.Clocked.{Clocked}
use Rattle.monitor.specs.Clock.{in_range}
use Rattle.monitor.specs.Flags.{valid_flags, held_flags}

-- a fresh monitor acts as if the clock before was in reset
abbrev pub fresh_of : Monitor
fresh_of = record {
  flags = 0;
  snapshot = 0;
  before = record { aresetn = false; valid = false; ready = false; address = 0; length = 0; size = 0; burst = 0; cache = 0; prot = 0; qos = 0; region = 0; id = 0 };
}

-- a clock in reset clears all flags; out of reset they stay, and the broken rules' flags are raised
unfoldable pub flags_of : Monitor → ℕ → Clock → ℕ
flags_of m width c =
    when c.aresetn (held_flags (valid_flags m.flags width m.before c) m.before c) 0

-- a clock in reset clears the snapshot; a clock that takes the flags from none to any takes it
unfoldable pub snapshot_of : Monitor → ℕ → Clock → ℕ
snapshot_of m flags c = when c.aresetn (when (eqb m.flags 0 && not (eqb flags 0)) flags m.snapshot) 0

-- the monitor's next self
abbrev pub clock_of : Monitor → ℕ → Clock → Monitor
clock_of m width c = record { flags = flags_of m width c; snapshot = snapshot_of m (flags_of m width c) c; before = c }

-- how many flags are up
abbrev pub count_of : Monitor → ℕ
count_of m = ones m.flags

-- the lowest flag that is up, 0 where there is none
abbrev pub lowest_of : Monitor → ℕ
lowest_of m = when (eqb m.flags 0) 0 (count_trailing_zeros 64 m.flags)

-- what a bus clock hands back, the answer by its number
pub record Seen : Type 0 where
  pub number : ℕ
  pub count : ℕ
  pub monitor : Monitor

-- an answer but 0: the count is 0, and the monitor is unchanged
abbrev pub refused : ℕ → Monitor → Seen
refused n m = record { number = n; count = 0; monitor = m }

-- what a monitor's bus clock handed back: 0 is done
abbrev pub seen : Monitor → Result Clocked Refusal → Seen
seen m (Ok c) = record { number = 0; count = c.count; monitor = c.monitor }
seen m (Err refusal) = refused (number_of refusal) m

-- answer 0: how many flags are up now, and the monitor's next self
abbrev pub taken : Monitor → Seen
taken m = record { number = 0; count = count_of m; monitor = m }

-- a bus clock: 1, 13
abbrev pub bus_clock_of : Monitor → ℕ → ℕ → Clock → Seen
bus_clock_of m width beats c =
    when (legal_settings width beats) (when (in_range c) (taken (clock_of m width c)) (refused 13 m)) (refused 1 m)
