-- RULES.md, "Cutting a transfer": what a plan answers and writes.
use Rattle.std.specs.Prelude.{ℕ, ◌+◌, ◌*◌, ◌/◌, Bool, Result, Ok, Err, List, [], ◌∷◌, ◌++◌, length, eqb, ltb}
use Rattle.std.proofs.lemmas.List.Edits.{sets}
use Rattle.kit.specs.Choice.{when, either}
use Rattle.kit.specs.Limits.{most_bytes, address_end}
use Rattle.kit.specs.Settings.{legal_settings}
use Rattle.kit.specs.Answer.{number_of}
use Rattle.kit.specs.declared.answer.Refusal.{Refusal}
use Rattle.kit.specs.Word.{bytes_of}
use Rattle.cut.specs.declared.Burst.{Burst}
use Rattle.cut.specs.Cut.{cut}
use Rattle.cut.specs.Count.{count_of}

-- a plan of 0 or too many bytes, or one that leaves the addresses: answer 7
abbrev pub out_of_range : ℕ → ℕ → Bool
out_of_range start count = either (eqb count 0) (either (ltb most_bytes count) (ltb address_end (start + count)))

-- an answer's number, and the number of bursts beside it
pub record Measured : Type 0 where
  pub answer : ℕ
  pub bursts : ℕ

abbrev pub refusal : ℕ → Measured
refusal n = record { answer = n; bursts = 0 }

-- answers 1, 7 and 8 in their order; else done, with the number of bursts
unfoldable pub measure_of : ℕ → ℕ → ℕ → ℕ → ℕ → Measured
measure_of w l start count room =
    let bursts = length (cut w l start (start + count)) in
    when (legal_settings w l)
    (when (out_of_range start count) (refusal 7) (when (ltb room (2 * bursts)) (refusal 8) (record { answer = 0; bursts = bursts })))
    (refusal 1)

-- RULES.md 3.4: answers 1 and 7 in their order; else done, with the number of bursts, worked out by division
unfoldable pub counted_of : ℕ → ℕ → ℕ → ℕ → Measured
counted_of w l start count =
    when (legal_settings w l)
    (when (out_of_range start count) (refusal 7) (record { answer = 0; bursts = count_of w l start (start + count) }))
    (refusal 1)

-- each burst's start and byte count, in turn
abbrev pub places_of : List Burst → List ℕ
places_of [] = []
places_of (b ∷ more) = b.start ∷ b.bytes ∷ places_of more

-- each number as four little-endian bytes
abbrev pub little_of : List ℕ → List ℕ
little_of [] = []
little_of (v ∷ more) = bytes_of v ++ little_of more

-- what a caller sees of a plan: the answer's number, the bursts' number and the lent slice
pub record Plan : Type 0 where
  pub answer : ℕ
  pub bursts : ℕ
  pub places : List ℕ

-- a plan that is measured writes its places where the answer is 0; nothing else changes
abbrev pub written : Measured → List ℕ → List ℕ → Plan
written m values places = record { answer = m.answer; bursts = m.bursts; places = when (eqb m.answer 0) (sets places 0 values) places }

abbrev pub plan_of : ℕ → ℕ → ℕ → ℕ → List ℕ → Plan
plan_of w l start count places = written (measure_of w l start count (length places)) (places_of (cut w l start (start + count))) places

-- the same over bytes: four a place
abbrev pub plan_bytes_of : ℕ → ℕ → ℕ → ℕ → List ℕ → Plan
plan_bytes_of w l start count places =
    written (measure_of w l start count (length places / 4)) (little_of (places_of (cut w l start (start + count)))) places

-- the code's results, as a caller sees them
abbrev pub measured : Result ℕ Refusal → Measured
measured (Ok bursts) = record { answer = 0; bursts = bursts }
measured (Err r) = refusal (number_of r)

abbrev pub seen : Result ℕ Refusal → List ℕ → Plan
seen r places = let m = measured r in record { answer = m.answer; bursts = m.bursts; places = places }
