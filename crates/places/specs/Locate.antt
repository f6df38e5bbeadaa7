-- RULES.md, "Memory that answers badly" and "Numbered answers": what a caller is told of a group of bytes.
use Rattle.std.specs.Prelude.{ℕ, ◌/◌, List, length, ltb, Result, Ok, Err}
use Rattle.kit.specs.Choice.{when}
use Rattle.kit.specs.declared.answer.Refusal.{Refusal}
use Rattle.kit.specs.Answer.{number_of}
use Rattle.kit.specs.Limits.{most_memory, most_windows}
use Rattle.memory.specs.declared.window.Window.{Window}
use Rattle.memory.specs.declared.verdict.Verdict.{Verdict}
use Rattle.memory.specs.declared.verdict.Verdict.TheVariants.{Okay, Slave, Decode}
use Rattle.memory.specs.Windows.{windows_of}
use Rattle.memory.specs.Verdict.{group_of}
use Rattle.places.specs.declared.locate.Located.{Located}
use Rattle.places.specs.Places.{lowest_in, address_of, window_by}

-- a verdict by its number
abbrev pub verdict_number : Verdict → ℕ
verdict_number Okay = 0
verdict_number Slave = 1
verdict_number Decode = 2

-- the answer's number, what the bytes answered, and the place and the window of that
pub record Location : Type 0 where
  pub answer : ℕ
  pub verdict : Verdict
  pub place : ℕ
  pub window : ℕ

-- an answer's number alone: OKAY beside it, and no place
abbrev pub told_alone : ℕ → Location
told_alone n = record { answer = n; verdict = Okay; place = 0; window = 0 }

-- what a call hands back: a refusal's number alone, or 0 and what it found
abbrev pub located_seen : Result Located Refusal → Location
located_seen (Ok r) = record { answer = 0; verdict = r.verdict; place = r.place; window = r.window }
located_seen (Err refusal) = told_alone (number_of refusal)

-- a group that answered v, its place at p
abbrev pub location_by : List Window → Verdict → ℕ → Location
location_by windows v p = record { answer = 0; verdict = v; place = p; window = window_by windows v p }

-- the n bytes from a on, in a memory of `size` bytes
abbrev pub location_of : ℕ → List Window → ℕ → ℕ → Location
location_of size windows a n = let v = group_of size windows a n in location_by windows v (address_of (lowest_in size windows v a n))

-- 2, 6, the first that fits
unfoldable pub located_of : ℕ → List ℕ → ℕ → ℕ → Location
located_of size windows a n =
    when (ltb most_memory size) (told_alone 2)
    (when (ltb most_windows (length windows / 2)) (told_alone 6) (location_of size (windows_of windows) a n))
