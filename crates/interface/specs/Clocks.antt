-- include/belikumba.h, "Monitor": a bus clock over a monitor's words.
use Rattle.std.specs.Prelude.{ℕ, List, eqb, ltb}
use Rattle.kit.specs.Choice.{when}
use Rattle.kit.specs.Settings.{legal_settings}
use Rattle.monitor.specs.Monitor.{lowest_of, Seen, bus_clock_of}
use Rattle.clocks.specs.declared.monitor_words.ClockForC.{ClockForC}
use Rattle.interface.specs.declared.bus.ClockedForC.{ClockedForC}
use Rattle.words.specs.EngineWords.{word}
use Rattle.clocks.specs.MonitorWords.{clock_from, monitor_from, monitor_words_of}

-- what is handed back, and the words
pub record ClockedWords : Type 0 where
  pub told : ClockedForC
  pub words : List ℕ

abbrev pub clocked_seen : ClockedForC → List ℕ → ClockedWords
clocked_seen r w = record { told = r; words = w }

abbrev pub refused_of : ℕ → ClockedForC
refused_of n = record { answer = n; count = 0; lowest = 0 }

-- a bus clock on the monitor that the words spell; a refusal leaves them as they were
abbrev pub clocked_words : Seen → List ℕ → ClockedWords
clocked_words r w =
    when (eqb r.number 0)
    (clocked_seen (record { answer = 0; count = r.count; lowest = lowest_of r.monitor }) (monitor_words_of r.monitor))
    (clocked_seen (refused_of r.number) w)

-- 1; 9 for a word 4 that no monitor has; 13, for bits that no clock has too
abbrev pub bus_clock_words_of : List ℕ → ℕ → ℕ → ClockForC → ClockedWords
bus_clock_words_of w width beats f =
    when (legal_settings width beats)
    (when (ltb 7 (word w 4)) (clocked_seen (refused_of 9) w)
    (when (ltb 7 f.bits) (clocked_seen (refused_of 13) w) (clocked_words (bus_clock_of (monitor_from w) width beats (clock_from f)) w)))
    (clocked_seen (refused_of 1) w)
