-- The pending bytes stay within the buffer over a turn, and positions grow by at most its length.
use mathlib.Core.Path.{◌≡◌, refl, sym, ap, subst}
use Prim.Native.Nat.{ℕ, ◌+◌, ◌≤◌}
use mathlib.Core.Bool.{Bool, true, false}
use mathlib.Core.List.{List}
use native.Mathlib.Omega.{arith}
use Rattle.flow.specs.declared.flow.Flow.{Flow}
use Rattle.flow.specs.Flow.{room, left_of, Fits}
use Rattle.flow.proofs.Pending.{pending-length, refill-kept, refill-fits}
use Rattle.replay.specs.Turn.{Forwards, Flows}
use Rattle.replay.proofs.Passes.{pass-within}

module _ {f : Flow} {b m w out : List ℕ} {r : Flow} {m' w' out' : List ℕ} (fits : Fits f b) (t : Forwards f b m w out r m' w' out') where
  pub used-within : t.passed.at ≤ left_of f
  used-within = omega (arith, pass-within t.passes, pending-length f b fits)

  pub forward-fits : Fits r b
  forward-fits =
      subst (λ (x : Flow). Fits x b) (sym t.is)
      (record { begins = omega (arith, used-within, fits.begins); within = fits.within; size = fits.size })

  pub forward-place : r.position ≤ f.position + room
  forward-place = subst (λ (x : Flow). x.position ≤ f.position + room) (sym t.is) (omega (arith, used-within, fits.within))

module _ {f : Flow} {b m w out : List ℕ} {r : Flow} {b' m' w' out' : List ℕ} (fits : Fits f b) (t : Flows f b m w out r b' m' w' out') where
  pub flow-fits : Fits r b'
  flow-fits = go t.middle.over refl
    where
      go : (o : Bool) → t.middle.over ≡ o → Fits r b'
      go true e = subst (λ (x : Flow). Fits x b') (sym (t.stops e).0) (refill-fits fits t.refills)
      go false e = forward-fits (refill-fits fits t.refills) (t.goes e)

  pub flow-place : r.position ≤ f.position + room
  flow-place = go t.middle.over refl
    where
      same : t.middle.position ≡ f.position
      same = (refill-kept fits t.refills).place

      go : (o : Bool) → t.middle.over ≡ o → r.position ≤ f.position + room
      go true e = omega (arith, ap (λ (x : Flow). x.position) (t.stops e).0, same)
      go false e = omega (arith, forward-place (refill-fits fits t.refills) (t.goes e), same)
