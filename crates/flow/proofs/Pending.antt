-- The pending bytes stay within the buffer.
use mathlib.Core.Path.{◌≡◌, refl, sym, ap, subst, ◌∙◌}
use Prim.Native.Nat.{ℕ, ◌+◌, ◌-◌, ◌≤◌, ◌<◌}
use mathlib.Core.Bool.{Bool, true, false}
use mathlib.Core.List.{List}
use native.Mathlib.Omega.{arith}
use lib.ListN.{length, take, drop, length-drop}
use lib.Seq.{length-take-le, length-sets, sets-eq, take_at}
use lib.Dec.{ltb}
use borrow.Author.Tests.{ltb-true}
use borrow.Rule.Slice.PartMut.{put_mid, take_put}
use lib.IntN.{ℤ, pos, negsuc}
use Rattle.kit.specs.Choice.{when}
use Rattle.kit.proofs.Choice.{cases, never}
use Rattle.record.specs.Claims.{longest}
use Rattle.kit.specs.Reading.{Moved}
use Rattle.memory.specs.Burst.{copied}
use Rattle.flow.specs.declared.flow.Flow.{Flow}
use Rattle.flow.specs.Flow.{room, left_of, pending, Fits, wants_of, after_read}
use Rattle.flow.specs.Input.{Refills}

pub pending-length : (f : Flow) (b : List ℕ) → Fits f b → length (pending f b) ≡ left_of f
pending-length f b fits = length-take-le (left_of f) (drop f.at b) (omega (arith, fits.begins, fits.within, fits.size, length-drop f.at b))

-- the pending bytes, copied to the buffer's front, stay there whatever a read puts after them
module _ (b b₁ : List ℕ) (at left : ℕ) (h : at + left ≤ length b) (e : b₁ ≡ copied b at 0 left) where
  pub copied-length : length b₁ ≡ length b
  copied-length = ap length e ∙ length-sets b 0 (take left (drop at b))

  pub front_kept : (n : ℕ) (part : List ℕ) → take left (put_mid left n b₁ part) ≡ take left (drop at b)
  front_kept n part =
      let vs = take left (drop at b) in
      let long : length vs ≡ left = length-take-le left (drop at b) (omega (arith, length-drop at b)) in
      take_put left n b₁ part (omega (arith, copied-length)) ∙ ap (take left) (e ∙ sets-eq vs b 0 (omega (arith, long)))
      ∙ take_at vs (drop (0 + length vs) b) left long

  pub part_length : length b ≡ room → length (take (length b₁ - left) (drop left b₁)) ≡ room - left
  part_length size = length-take-le (length b₁ - left) (drop left b₁) (omega (arith, length-drop left b₁)) ∙ omega (arith, copied-length, size)

-- where a read is due, few bytes are pending
pub wants-few : (f : Flow) → wants_of f ≡ true → left_of f < longest
wants-few f e = go f.ended e
  where
    go : (v : Bool) → when v false (ltb (left_of f) longest) ≡ true → left_of f < longest
    go true k = absurd (never k)
    go false k = ltb-true (left_of f) longest k

pub read-front : (f : Flow) (answer : ℤ) (interrupted : Bool) → (after_read f answer interrupted).at ≡ 0
read-front f (pos n) interrupted = refl
read-front f (negsuc n) interrupted = refl

-- the pending bytes' place after a read, and the flow's place in the trace
pub record Kept (f r : Flow) : Type 0 where
  pub begins : r.at ≤ r.filled
  pub within : r.filled ≤ room
  pub place : r.position ≡ f.position
  pub session : r.session ≡ f.session
  pub other : r.other ≡ f.other

read_kept : (f : Flow) (answer : ℤ) (interrupted : Bool) → f.at ≤ f.filled → f.filled ≤ room → Moved (room - left_of f) answer
    → Kept f (after_read f answer interrupted)
read_kept f (pos n) interrupted h i moved = record { begins = omega arith; within = omega (arith, moved); place = refl; session = refl; other = refl }
read_kept f (negsuc n) interrupted h i moved = record { begins = omega arith; within = omega arith; place = refl; session = refl; other = refl }

module _ {f : Flow} {b : List ℕ} {r : Flow} {b' : List ℕ} (fits : Fits f b) (t : Refills f b r b') where
  pub refill-kept : Kept f r
  refill-kept =
      subst (Kept f) (sym t.is)
      (cases (Kept f) (wants_of f) (λ _. read_kept f t.answer t.interrupted fits.begins fits.within t.moved)
      (λ _. record { begins = fits.begins; within = fits.within; place = refl; session = refl; other = refl }))

  pub refill-fits : Fits r b'
  refill-fits = record { begins = refill-kept.begins; within = refill-kept.within; size = t.size }
