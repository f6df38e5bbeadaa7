-- Each turn gets on.
use mathlib.Core.Path.{◌≡◌, refl, sym, ap, ◌∙◌}
use mathlib.Core.Logic.{◌⊎◌, inl, inr}
use Prim.Native.Nat.{ℕ, zero, suc, ◌+◌, ◌-◌, ◌<◌}
use mathlib.Core.Bool.{Bool, true, false, not}
use mathlib.Core.List.{List}
use native.Mathlib.Omega.{arith}
use lib.ListN.{length, drop, length-drop}
use lib.Seq.{length-take-le}
use lib.IntN.{ℤ, pos, negsuc}
use Rattle.kit.specs.Choice.{either}
use Rattle.kit.proofs.Choice.{either-right}
use Rattle.kit.specs.Reading.{Moved}
use Rattle.convert.specs.declared.copying.Copying.{Copying}
use Rattle.convert.specs.Copying.{room, front, over_of, ready_of, after_read}
use Rattle.convert.specs.Turn.{Turn, delivered_by}
use Rattle.convert.specs.Whole.{interrupted_by, Progress}

-- a write leaves what a read said
kept : {s : Copying} {b : List ℕ} {r : Copying} {b' : List ℕ} (t : Turn s b r b') → (r.ended ≡ t.middle.ended) × (r.failed ≡ t.middle.failed)
kept {r = r} t = go (ready_of t.middle) refl
  where
    go : (v : Bool) → ready_of t.middle ≡ v → (r.ended ≡ t.middle.ended) × (r.failed ≡ t.middle.failed)
    go true e = (ap (λ (x : Copying). x.ended) (t.goes e).is, ap (λ (x : Copying). x.failed) (t.goes e).is)
    go false e = (ap (λ (x : Copying). x.ended) (t.waits e), ap (λ (x : Copying). x.failed) (t.waits e))

over-ended : (s : Copying) → s.ended ≡ true → over_of s ≡ true
over-ended s e = ap (λ (v : Bool). either v (either s.failed (not s.taken))) e

over-failed : (s : Copying) → s.failed ≡ true → over_of s ≡ true
over-failed s e = sym (either-right s.ended (sym (ap (λ (v : Bool). either v (not s.taken)) e)))

pub progress : Progress
progress s b r b' fits t = go t.refills.answer t.refills.interrupted t.refills.is t.refills.moved
  where
    go : (answer : ℤ) (interrupted : Bool) → t.middle ≡ after_read s answer interrupted → Moved (room - (front + s.waiting)) answer
        → (over_of r ≡ true) ⊎ ((0 < length (delivered_by answer s b')) ⊎ (interrupted_by answer interrupted ≡ true))
    go (pos zero) i e moved = inl (over-ended r ((kept t).0 ∙ ap (λ (x : Copying). x.ended) e))
    go (pos (suc n)) i e moved =
        inr
        (inl
        (omega
        (arith, length-take-le (suc n) (drop (front + s.waiting) b') (omega (arith, moved, t.refills.size, length-drop (front + s.waiting) b')))))
    go (negsuc n) true e moved = inr (inr refl)
    go (negsuc n) false e moved = inl (over-failed r ((kept t).1 ∙ ap (λ (x : Copying). x.failed) e))
