-- RULES.md, "Numbered answers": the number of each answer.
use Rattle.std.specs.Prelude.{ℕ, Result, Ok, Err}
use Rattle.kit.specs.declared.answer.Refusal.{Refusal}
use Rattle.kit.specs.declared.answer.Refusal.TheVariants.{Settings, MemorySize, Offset, Busy, ErrorSet, WindowCount, PlanRange, PlanRoom, State, Record, Sequence, MemoryEnd, Clock, Engine}

abbrev pub number_of : Refusal → ℕ
number_of Settings = 1
number_of MemorySize = 2
number_of Offset = 3
number_of Busy = 4
number_of ErrorSet = 5
number_of WindowCount = 6
number_of PlanRange = 7
number_of PlanRoom = 8
number_of State = 9
number_of Record = 10
number_of Sequence = 11
number_of MemoryEnd = 12
number_of Clock = 13
number_of Engine = 21

-- of a call that gives something where it is done: 0
abbrev pub answer_number : {A : Type 0} → Result A Refusal → ℕ
answer_number (Ok _) = 0
answer_number (Err refusal) = number_of refusal
