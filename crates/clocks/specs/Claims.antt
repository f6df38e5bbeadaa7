-- include/belikumba.h: what a monitor's words promise. Proved in proofs/Claims.antt.
use Rattle.std.specs.Prelude.{◌≤◌, ◌≡◌, replicate}
use Rattle.monitor.specs.declared.monitor.Monitor.{Monitor}
use Rattle.monitor.specs.Monitor.{fresh_of}
use Rattle.words.specs.EngineWords.{word}
use Rattle.clocks.specs.MonitorWords.{monitor_from, monitor_words_of}

pub record Words : Type 0 where
  -- a fresh monitor's words are zeros
  pub fresh-monitor : monitor_words_of fresh_of ≡ replicate 14 0
  -- what is stored reads back as the same monitor, and its word 4 is at most 7
  pub monitor-back : (m : Monitor) → (monitor_from (monitor_words_of m) ≡ m) × (word (monitor_words_of m) 4 ≤ 7)
