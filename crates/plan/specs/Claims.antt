-- RULES.md, "Cutting a transfer", and the plan half of demand 3: what holds of every plan. Proved in proofs/Claims.antt.
use Rattle.std.specs.Prelude.{ℕ, zero, suc, ◌+◌, ◌*◌, ◌≤◌, ◌≡◌, Result, List, [], ◌∷◌, length, get_or, drop, ltb}
use Rattle.kit.specs.Choice.{when}
use Rattle.kit.specs.Word.{word_at}
use Rattle.kit.specs.declared.answer.Refusal.{Refusal}
use Rattle.cut.specs.declared.Burst.{Burst}
use Rattle.cut.specs.Legal.{WellCut}
use Rattle.plan.specs.Plan.{Measured, refusal, measure_of, counted_of, measured, Plan, plan_of, plan_bytes_of, seen}

-- the bursts that the first places hold, two places each: start, byte count
abbrev pub bursts_in : ℕ → List ℕ → List Burst
bursts_in zero places = []
bursts_in (suc k) places = record { start = get_or places 0 0; bytes = get_or places 1 0 } ∷ bursts_in k (drop 2 places)

-- the bursts that the first bytes hold, eight bytes each: start and byte count as little-endian words
abbrev pub bursts_in_bytes : ℕ → List ℕ → List Burst
bursts_in_bytes zero places = []
bursts_in_bytes (suc k) places = record { start = word_at places 0; bytes = word_at places 4 } ∷ bursts_in_bytes k (drop 8 places)

-- the bursts read back from a slice are legal, tile the transfer's bytes in rising order, and are no more than those of any
-- legal list that covers them; they take the first `used` elements, and all others are as before
pub record WellPlanned (w l start count used : ℕ) (bursts : List Burst) (before after : List ℕ) : Type 0 where
  pub well-cut : WellCut w l start (start + count) bursts
  pub room : used ≤ length before
  pub kept : length after ≡ length before
  pub others : drop used after ≡ drop used before

-- a refused plan has no bursts and changes nothing
pub record Unchanged (p : Plan) (before : List ℕ) : Type 0 where
  pub none : p.bursts ≡ 0
  pub kept : p.places ≡ before

-- what a plan with `room` places gives, by its count m: answer 8 if it needs more, else what m has
abbrev pub fitted : Measured → ℕ → Measured
fitted m room = when (ltb room (2 * m.bursts)) (refusal 8) m

pub record Claims : Type 0 where
  -- every plan that is not refused, for every width, beats, start, count and lent slice
  pub plan : (w l start count : ℕ) (places : List ℕ)
      → let p = plan_of w l start count places in
      p.answer ≡ 0 → WellPlanned w l start count (2 * p.bursts) (bursts_in p.bursts p.places) places p.places
  -- the same over bytes: the contract of `belikumba_plan`, which C calls, says that its result is `plan_bytes_of`
  pub plan-bytes : (w l start count : ℕ) (places : List ℕ)
      → let p = plan_bytes_of w l start count places in
      p.answer ≡ 0 → WellPlanned w l start count (8 * p.bursts) (bursts_in_bytes p.bursts p.places) places p.places
  -- every plan that is refused
  pub plan-refused : (w l start count : ℕ) (places : List ℕ)
      → let p = plan_of w l start count places in (p.answer ≡ 0 → ⊥) → Unchanged p places
  pub plan-bytes-refused : (w l start count : ℕ) (places : List ℕ)
      → let p = plan_bytes_of w l start count places in (p.answer ≡ 0 → ⊥) → Unchanged p places
  -- RULES.md 3.4: a plan has the bursts that its count says, and lacks room exactly if that many do not fit
  pub count : (w l start count room : ℕ) → measure_of w l start count room ≡ fitted (counted_of w l start count) room

-- two results that one contract allows are equal, and so are the slices they leave
pub record Unique : Type 0 where
  pub measure : (w l start count room : ℕ) (p q : Result ℕ Refusal) → measured p ≡ measure_of w l start count room
      → measured q ≡ measure_of w l start count room → p ≡ q
  pub count : (w l start count : ℕ) (p q : Result ℕ Refusal) → measured p ≡ counted_of w l start count → measured q ≡ counted_of w l start count → p ≡ q
  pub plan : (w l start count : ℕ) (places a b : List ℕ) (p q : Result ℕ Refusal) → seen p a ≡ plan_of w l start count places
      → seen q b ≡ plan_of w l start count places → (p ≡ q) × (a ≡ b)
  pub plan-bytes : (w l start count : ℕ) (places a b : List ℕ) (p q : Result ℕ Refusal) → seen p a ≡ plan_bytes_of w l start count places
      → seen q b ≡ plan_bytes_of w l start count places → (p ≡ q) × (a ≡ b)
