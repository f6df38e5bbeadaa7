-- M1 to M3 of RULES.md, computed.
use mathlib.Core.Path.{refl}
use Rattle.kit.specs.Settings.{legal_width, legal_beats}
use Rattle.monitor.specs.Flags.{flag_of, raise, valid_table, held_table, valid_flags, held_flags}
use Rattle.monitor.specs.Monitor.{flags_of}
use Rattle.monitor.specs.Cases.{Cases}

pub cases : Cases
unfolding legal_width legal_beats flag_of raise valid_table held_table valid_flags held_flags flags_of
cases = record { m1 = refl; m1-unaligned = refl; m2 = refl; m3 = refl; m3-long = refl }
