-- RULES.md, "Bus clocks", M1 to M3: W=4, the clock before was out of reset with valid low, and other fields not named are 0.
use Rattle.std.specs.Prelude.{◌≡◌, true, false, ℕ, ◌^◌}
use Rattle.monitor.specs.declared.clock.Clock.{Clock}
use Rattle.monitor.specs.declared.monitor.Monitor.{Monitor}
use Rattle.monitor.specs.Monitor.{bus_clock_of}

-- a clock out of reset with valid high
abbrev pub on_bus : ℕ → ℕ → ℕ → ℕ → Clock
on_bus burst length size address = record {
  aresetn = true;
  valid = true;
  ready = false;
  address = address;
  length = length;
  size = size;
  burst = burst;
  cache = 0;
  prot = 0;
  qos = 0;
  region = 0;
  id = 0;
}

-- no flag, and the clock before was out of reset with valid low
abbrev pub quiet : Monitor
quiet = record {
  flags = 0;
  snapshot = 0;
  before = record { aresetn = true; valid = false; ready = false; address = 0; length = 0; size = 0; burst = 0; cache = 0; prot = 0; qos = 0; region = 0; id = 0 };
}

-- the answer's number, and the flags
abbrev pub shown : Clock → ℕ × ℕ
shown c = ((bus_clock_of quiet 4 16 c).number, (bus_clock_of quiet 4 16 c).monitor.flags)

pub record Cases : Type 0 where
  -- M1: burst 1, length 15, size 2, address 0xFC0: none; 0xFC1: none
  pub m1 : shown (on_bus 1 15 2 0xFC0) ≡ (0, 0)
  pub m1-unaligned : shown (on_bus 1 15 2 0xFC1) ≡ (0, 0)
  -- M2: as M1 at 0xFC4: 37
  pub m2 : shown (on_bus 1 15 2 0xFC4) ≡ (0, 2 ^ 37)
  -- M3: burst 0, length 15: none; 16: 42
  pub m3 : shown (on_bus 0 15 0 0) ≡ (0, 0)
  pub m3-long : shown (on_bus 0 16 0 0) ≡ (0, 2 ^ 42)
