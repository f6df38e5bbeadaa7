-- What it takes for a plan not to be refused, and that two plans of one transfer are equal.
use mathlib.Core.Path.{◌≡◌, refl, sym, ap, ◌∙◌}
use Prim.Native.Nat.{ℕ, ◌+◌, ◌-◌, ◌*◌, ◌≤◌, ◌<◌}
use mathlib.Core.Bool.{Bool, true, false}
use mathlib.Core.Logic.{◌⊎◌, inl, inr}
use lib.ListN.{length}
use lib.Dec.{eqb, ltb}
use native.Mathlib.Omega.{arith}
use borrow.Author.Tests.{ltb-true, ltb-false, lt-ltb, le-ltb, eqb-false}
use Rattle.kit.specs.Choice.{when, either}
use Rattle.kit.specs.Limits.{most_bytes, address_end}
use Rattle.kit.specs.Settings.{legal_settings}
use Rattle.kit.proofs.Choice.{yes, no, cases, decide, never}
use Rattle.cut.specs.Cut.{cut}
use Rattle.plan.specs.Plan.{out_of_range, Measured, refusal, measure_of}

-- the code compares lengths, and never makes the sum
pub past_end : (start count : ℕ) → start ≤ address_end → ltb (address_end - start) count ≡ ltb address_end (start + count)
past_end start count h = go (decide (ltb (address_end - start) count))
  where
    go : (ltb (address_end - start) count ≡ true) ⊎ (ltb (address_end - start) count ≡ false) → ltb (address_end - start) count ≡ ltb address_end (start + count)
    go (inl t) = let i = ltb-true (address_end - start) count t in t ∙ sym (lt-ltb address_end (start + count) (omega arith))
    go (inr t) = let i = ltb-false (address_end - start) count t in t ∙ sym (le-ltb address_end (start + count) (omega arith))

-- a range that is not refused
pub record InRange (start count : ℕ) : Type 0 where
  pub some : 0 < count
  pub few : count ≤ most_bytes
  pub inside : start + count ≤ address_end

pub in-range : (start count : ℕ) → out_of_range start count ≡ false → InRange start count
in-range start count e = go (eqb count 0) (ltb most_bytes count) (ltb address_end (start + count)) refl refl refl e
  where
    go : (t u v : Bool) → eqb count 0 ≡ t → ltb most_bytes count ≡ u → ltb address_end (start + count) ≡ v
        → either t (either u v) ≡ false → InRange start count
    go true u v p q r e = absurd (never (sym e))
    go false true v p q r e = absurd (never (sym e))
    go false false true p q r e = absurd (never (sym e))
    go false false false p q r e =
        let nonzero = eqb-false count 0 p in
        record { some = omega (arith, nonzero); few = ltb-false most_bytes count q; inside = ltb-false address_end (start + count) r }

-- what a plan that is not refused measures
abbrev pub counted_as : ℕ → Measured
counted_as n = record { answer = 0; bursts = n }

-- a plan whose answer is 0
pub record Planable (w l start count room : ℕ) : Type 0 where
  pub legal : legal_settings w l ≡ true
  pub range : InRange start count
  pub fits : 2 * length (cut w l start (start + count)) ≤ room
  pub counted : measure_of w l start count room ≡ counted_as (length (cut w l start (start + count)))

pub planable : (w l start count room : ℕ) → (measure_of w l start count room).answer ≡ 0 → Planable w l start count room
unfolding measure_of
planable w l start count room e = go (legal_settings w l) (out_of_range start count) (ltb room (2 * n)) refl refl refl e
  where
    n : ℕ
    n = length (cut w l start (start + count))

    go : (t u v : Bool) → legal_settings w l ≡ t → out_of_range start count ≡ u → ltb room (2 * n) ≡ v
        → (when t (when u (refusal 7) (when v (refusal 8) (counted_as n))) (refusal 1)).answer ≡ 0
        → Planable w l start count room
    go false u v p q r e = absurd (omega arith)
    go true true v p q r e = absurd (omega arith)
    go true false true p q r e = absurd (omega arith)
    go true false false p q r e = record {
      legal = p;
      range = in-range start count q;
      fits = ltb-false room (2 * n) r;
      counted = sym (yes (refusal 1) p (no (refusal 7) q (no (refusal 8) r refl)));
    }

-- a plan that was measured
pub fillable : {w l start count room n : ℕ} → counted_as n ≡ measure_of w l start count room → Planable w l start count room
fillable {w} {l} {start} {count} {room} e = planable w l start count room (ap (λ (m : Measured). m.answer) (sym e))

pub refused_none : (w l start count room : ℕ) → ((measure_of w l start count room).answer ≡ 0 → ⊥) → (measure_of w l start count room).bursts ≡ 0
unfolding measure_of
refused_none w l start count room =
    cases P (legal_settings w l)
    (λ _. cases P (out_of_range start count) (λ _ _. refl) λ _. cases P (ltb room (2 * length (cut w l start (start + count)))) (λ _ _. refl) λ _ h. absurd (h refl))
    (λ _ _. refl)
  where
    P : Measured → Type 0
    P m = (m.answer ≡ 0 → ⊥) → m.bursts ≡ 0
