-- One piece to a fixed destination.
use mathlib.Core.Path.{◌≡◌, refl, sym, ap, subst, ◌∙◌}
use mathlib.Core.Logic.{inl, inr}
use mathlib.Core.Bool.{Bool, true, false}
use mathlib.Core.List.{List}
use Prim.Native.Nat.{ℕ, ◌+◌, ◌%◌, ◌≤◌, ◌<◌}
use native.Mathlib.Nat.{mod-lt}
use native.Mathlib.Omega.{arith}
use lib.ListN.{length, get_or}
use Rattle.kit.specs.Choice.{when}
use Rattle.kit.proofs.Choice.{never}
use Rattle.kit.proofs.Legal.{legal}
use Rattle.cut.specs.declared.Burst.{Burst}
use Rattle.memory.specs.declared.verdict.Verdict.TheVariants.{Okay}
use Rattle.sides.specs.Sides.{place_of, Inside, sides_moved}
use Rattle.sides.proofs.Claims.{claims}
use Rattle.state.specs.declared.engine.Transfer.{Transfer}
use Rattle.steps.specs.declared.event.Event.{Event}
use Rattle.steps.specs.declared.event.Event.TheVariants.{Move as Moved}
use Rattle.steps.specs.Step.{AfterAdvance, writes_at, read_place, told_at, next_bytes, burst_moved}
use Rattle.steps.proofs.Advances.{judged, Advance, rests, halts, fetches, moves, faults, updates, advances}
use Rattle.steps.proofs.Bursts.{answer-fit}
use Rattle.claims.specs.Transfers.{bursts_of, Outside}
use Rattle.claims.specs.KeyHole.{Remained, Remain}

-- the word at d after n bytes from byte k on, which come from `reads`
module _ (w : ℕ) (some : 0 < w) (reads : ℕ → ℕ) (d k n : ℕ) (m : List ℕ) where
  no_place : (x : ℕ) → Outside x d w → (i : ℕ) → i < n → place_of true w d (k + i) ≡ x → ⊥
  no_place x (inl o) i h e = omega (arith, o, e)
  no_place x (inr o) i h e = omega (arith, o, e, mod-lt (k + i) some)

  word_bytes : (writes : Bool) → writes ≡ true → Inside (length m) (place_of writes w d) k n → (i : ℕ) → i < n → n ≤ i + w
      → get_or (sides_moved m reads (place_of writes w d) k n) (d + (k + i) % w) 0 ≡ get_or m (reads (k + i)) 0
  word_bytes true e inside i h l = claims.last-remains m reads w d k n i some h l inside
  word_bytes false e inside i h l = absurd (never e)

  word-others : (writes : Bool) → writes ≡ true → (x : ℕ) → Outside x d w → get_or (sides_moved m reads (place_of writes w d) k n) x 0 ≡ get_or m x 0
  word-others true e x o = claims.others-stay m reads (place_of true w d) k n x (no_place x o)
  word-others false e x o = absurd (never e)

pub remain : Remain
remain s t b m windows legals e writing f = go (advances s m windows) f
  where
    piece : (u : Transfer) → judged s m windows u ≡ Okay
        → Remained s u (record { start = told_at s u; bytes = next_bytes s u }) m (burst_moved s u m (next_bytes s u))
    piece u okay =
        let n = next_bytes s u in
        let w = s.settings.width in
        let word = (legal w s.settings.beats legals).width_positive in
        let reads : ℕ → ℕ = read_place s.settings s.control.keyholeread u in
        let fits = answer-fit s.settings s.control.keyholeread s.control.keyholewrite u (length m) windows n okay in
        record {
          start = ap (λ (x : Bool). when x u.destination (writes_at u)) writing;
          bytes = word_bytes w word reads u.destination u.moved n m s.control.keyholewrite writing fits.destination;
          others = word-others w word reads u.destination u.moved n m s.control.keyholewrite writing;
        }

    -- an event without a burst is no move
    none : {x : Event} → length (bursts_of x) ≡ 0 → x ≡ Moved b → ⊥
    none z h = omega (arith, z, ap (λ (y : Event). length (bursts_of y)) h)

    go : {r : AfterAdvance} → Advance s m windows r → r.event ≡ Moved b → Remained s t b m r.memory
    go (rests p) h = absurd (none refl h)
    go (halts p x y) h = absurd (none refl h)
    go (fetches p okay ready) h = absurd (none refl h)
    go (moves u p okay) h =
        let same : u ≡ t = cc (sym p ∙ e) in
        let burst : record { start = told_at s u; bytes = next_bytes s u } ≡ b = cc h in
        subst (λ (x : Transfer). Remained s x b m (burst_moved s u m (next_bytes s u))) same
        (subst (λ (x : Burst). Remained s u x m (burst_moved s u m (next_bytes s u))) burst (piece u okay))
    go (faults u p o x y z) h = absurd (none refl h)
    go (updates o p okay) h = absurd (none refl h)
