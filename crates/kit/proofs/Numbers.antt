-- Two answers with one number are one answer.
use mathlib.Core.Path.{◌≡◌, refl, sym, ap, ◌∙◌}
use Prim.Native.Nat.{ℕ}
use mathlib.Core.Bool.{false}
use lib.Dec.{eqb}
use Rattle.kit.specs.Choice.{when}
use Rattle.std.specs.Prelude.{Result, Ok, Err, ⊤}
use Rattle.kit.specs.Answer.{number_of, answer_number}
use Rattle.kit.specs.declared.answer.Refusal.{Refusal}
use Rattle.kit.specs.declared.answer.Refusal.TheVariants.{Settings, MemorySize, Offset, Busy, ErrorSet, WindowCount, PlanRange, PlanRoom, State, Record, Sequence, MemoryEnd, Clock, Engine}

-- what is refused with a number
refusal_of : ℕ → Refusal
refusal_of n =
    when (eqb n 1) Settings
    (when (eqb n 2) MemorySize
    (when (eqb n 3) Offset
    (when (eqb n 4) Busy
    (when (eqb n 5) ErrorSet
    (when (eqb n 6) WindowCount
    (when (eqb n 7) PlanRange
    (when (eqb n 8) PlanRoom
    (when (eqb n 9) State
    (when (eqb n 10) Record
    (when (eqb n 11) Sequence
    (when (eqb n 12) MemoryEnd
    (when (eqb n 13) Clock Engine))))))))))))

back : (r : Refusal) → refusal_of (number_of r) ≡ r
unfolding refusal_of
back Settings = refl
back MemorySize = refl
back Offset = refl
back Busy = refl
back ErrorSet = refl
back WindowCount = refl
back PlanRange = refl
back PlanRoom = refl
back State = refl
back Record = refl
back Sequence = refl
back MemoryEnd = refl
back Clock = refl
back Engine = refl

-- the answer of a number
answer_of : ℕ → Result ⊤ Refusal
answer_of n = when (eqb n 0) (Ok tt) (Err (refusal_of n))

answer_back : (a : Result ⊤ Refusal) → answer_of (answer_number a) ≡ a
unfolding answer_of refusal_of
answer_back (Ok tt) = refl
answer_back (Err Settings) = refl
answer_back (Err MemorySize) = refl
answer_back (Err Offset) = refl
answer_back (Err Busy) = refl
answer_back (Err ErrorSet) = refl
answer_back (Err WindowCount) = refl
answer_back (Err PlanRange) = refl
answer_back (Err PlanRoom) = refl
answer_back (Err State) = refl
answer_back (Err Record) = refl
answer_back (Err Sequence) = refl
answer_back (Err MemoryEnd) = refl
answer_back (Err Clock) = refl
answer_back (Err Engine) = refl

pub number-tells : {a b : Result ⊤ Refusal} → answer_number a ≡ answer_number b → a ≡ b
number-tells {a} {b} e = sym (answer_back a) ∙ ap answer_of e ∙ answer_back b

pub refusal-tells : {a b : Refusal} → number_of a ≡ number_of b → a ≡ b
refusal-tells {a} {b} e = sym (back a) ∙ ap refusal_of e ∙ back b

-- no refusal has the number 0
pub refusal-some : (r : Refusal) → eqb (number_of r) 0 ≡ false
refusal-some Settings = refl
refusal-some MemorySize = refl
refusal-some Offset = refl
refusal-some Busy = refl
refusal-some ErrorSet = refl
refusal-some WindowCount = refl
refusal-some PlanRange = refl
refusal-some PlanRoom = refl
refusal-some State = refl
refusal-some Record = refl
refusal-some Sequence = refl
refusal-some MemoryEnd = refl
refusal-some Clock = refl
refusal-some Engine = refl
