-- RULES.md, "Trace and listing": what is told of an event: its word by number, and two numbers. The listing, the C
-- library and its header go by this one table.
use Rattle.std.specs.Prelude.{ℕ}
use Rattle.steps.specs.declared.event.Event.{Event}
use Rattle.steps.specs.declared.event.Event.TheVariants.{None, Fetch, Move, Fault, Update, Halt}
use Rattle.steps.specs.declared.report.Report.{Report}

abbrev pub told : ℕ → ℕ → ℕ → Report
told number first second = record { number = number; first = first; second = second }

-- none; fetch current 0; move destination bytes; fault place CDMASR-bit; update current word; halt current CDMASR-bit
abbrev pub report_of : Event → Report
report_of None = told 0 0 0
report_of (Fetch current) = told 1 current 0
report_of (Move burst) = told 2 burst.start burst.bytes
report_of (Fault place bit) = told 3 place bit
report_of (Update current word) = told 4 current word
report_of (Halt current bit) = told 5 current bit
