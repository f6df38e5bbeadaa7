-- RULES.md, "Trace and listing": an AR record's clock, judged with its bits.
use Rattle.std.specs.Prelude.{ℕ, ltb}
use Rattle.kit.specs.Choice.{when}
use Rattle.kit.specs.declared.answer.Refusal.TheVariants as answers
use Rattle.kit.specs.Answer.{number_of}
use Rattle.kit.specs.declared.settings.Settings.{Settings}
use Rattle.monitor.specs.declared.clock.Clock.{Clock}
use Rattle.monitor.specs.declared.monitor.Monitor.{Monitor}
use Rattle.monitor.specs.Monitor.{Seen, refused, bus_clock_of}
use Rattle.record.specs.declared.reading.Body.{Body}

-- the body of an AR record
abbrev pub clock_body : ℕ → Clock → Body
clock_body bits clock = Body.Clock bits clock

-- bits other than 0, 1 and 2 are refused
abbrev pub judged_of : Monitor → Settings → ℕ → Clock → Seen
judged_of m settings bits clock = when (ltb 7 bits) (refused (number_of answers.Clock) m) (bus_clock_of m settings.width settings.beats clock)
