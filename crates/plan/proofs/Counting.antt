-- A plan's measure is its count, unless the bursts do not fit.
use mathlib.Core.Path.{◌≡◌, refl, sym, ap, ◌∙◌}
use Prim.Native.Nat.{ℕ, ◌+◌, ◌*◌, ◌≤◌, zero-le}
use mathlib.Core.Bool.{Bool, true, false}
use lib.Dec.{ltb}
use lib.ListN.{length}
use native.Mathlib.Omega.{arith}
use borrow.Author.Tests.{le-ltb}
use Rattle.kit.specs.Choice.{when}
use Rattle.kit.specs.Limits.{most_bytes}
use Rattle.kit.specs.Settings.{legal_settings}
use Rattle.kit.proofs.Choice.{no, cases}
use Rattle.kit.proofs.Legal.{legal}
use Rattle.cut.specs.Cut.{cut}
use Rattle.cut.specs.Count.{count_of}
use Rattle.cut.proofs.Cutting.{cut-few}
use Rattle.cut.proofs.Count.{counted}
use Rattle.plan.specs.Plan.{Measured, out_of_range, refusal, measure_of, counted_of}
use Rattle.plan.specs.Claims.{fitted}
use Rattle.plan.proofs.Planning.{InRange, in-range, counted_as}

module _ (w l start count room : ℕ) where
  pub count_fits : measure_of w l start count room ≡ fitted (counted_of w l start count) room
  unfolding measure_of counted_of
  count_fits = go (legal_settings w l) (out_of_range start count) refl
    where
      n : ℕ
      n = length (cut w l start (start + count))

      none : ltb room (2 * 0) ≡ false
      none = le-ltb room (2 * 0) (omega arith)

      go : (t u : Bool) → legal_settings w l ≡ t
          → when t (when u (refusal 7) (when (ltb room (2 * n)) (refusal 8) (counted_as n))) (refusal 1)
          ≡ fitted (when t (when u (refusal 7) (counted_as (count_of w l start (start + count)))) (refusal 1)) room
      go false u e = no _ none refl
      go true true e = no _ none refl
      go true false e =
          let g = legal w l e in
          ap (λ (k : ℕ). fitted (counted_as k) room) (counted w l g.width_positive g.beats-positive start (start + count))

  count-few : (counted_of w l start count).bursts ≤ most_bytes
  unfolding counted_of
  count-few = cases P (legal_settings w l) (λ e. cases P (out_of_range start count) (λ _. zero-le) (λ i. few e (in-range start count i))) (λ _. zero-le)
    where
      P : Measured → Type 0
      P m = m.bursts ≤ most_bytes

      few : legal_settings w l ≡ true → InRange start count → count_of w l start (start + count) ≤ most_bytes
      few e r =
          let g = legal w l e in
          omega (arith, r.few, counted w l g.width_positive g.beats-positive start (start + count), cut-few w l g.width_positive g.beats-positive start (start + count))

  -- with room for as many bursts as a plan can have bytes, all fit
  pub count-all : 2 * most_bytes ≤ room → measure_of w l start count room ≡ counted_of w l start count
  count-all h = count_fits ∙ sym (no _ (le-ltb room (2 * (counted_of w l start count).bursts) (omega (arith, count-few))) refl)
