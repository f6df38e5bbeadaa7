-- A transfer that moves is the one asked for, from its first byte on, and it fits.
use mathlib.Core.Path.{◌≡◌, refl, sym, subst}
use mathlib.Core.Logic.{◌⊎◌, inl, inr}
use Prim.Native.Nat.{ℕ, ◌%◌, ◌≤◌, ◌<◌}
use native.Mathlib.Omega.{arith}
use mathlib.Core.Bool.{Bool, true, false}
use lib.Dec.{eqb}
use borrow.Author.Tests.{eq-eqb, eqb-true, eqb-false}
use Rattle.kit.specs.Choice.{both}
use Rattle.kit.specs.Limits.{most_bytes, address_end}
use Rattle.kit.proofs.Choice.{yes, no, cases, decide, never, both_left, both_right, both-join}
use Rattle.std.specs.Prelude.{Option, Some, None}
use Rattle.state.specs.declared.engine.Control.{Control}
use Rattle.state.specs.declared.engine.Transfer.{Transfer}
use Rattle.state.specs.Claims.{Suited}
use Rattle.state.specs.Descriptor.{suits, start_of}
use Rattle.state.specs.State.{transfer_fits}
use Rattle.state.proofs.WellFormed.{transfer-fits-test}

abbrev pub asked : ℕ → ℕ → ℕ → Transfer
asked source destination count = record { source = source; destination = destination; total = count; moved = 0 }

-- a fixed side that suits
multiples : (fixed : Bool) (w start count : ℕ) → suits fixed w start count ≡ true → fixed ≡ true → (start % w ≡ 0) × (count % w ≡ 0)
multiples true w start count e _ =
    (eqb-true (start % w) 0 (both_left (eqb (start % w) 0) (eqb (count % w) 0) e), eqb-true (count % w) 0 (both_right (eqb (start % w) 0) (eqb (count % w) 0) e))
multiples false w start count e f = absurd (never f)

module _ (w : ℕ) (c : Control) (source destination count : ℕ) (t : Transfer) where
  pub record Started : Type 0 where
    pub suited : Suited w c source destination count
    pub same : t ≡ asked source destination count

  pub started : start_of w c source destination count ≡ Some t → Started
  started =
      let reads = suits c.keyholeread w source count in
      let writes = suits c.keyholewrite w destination count in
      cases (λ (x : Option Transfer). x ≡ Some t → Started) (eqb count 0) (λ _ e. cc)
      (λ z. cases (λ (x : Option Transfer). x ≡ Some t → Started) (both reads writes)
      (λ b e. let some = eqb-false count 0 z in
      record {
        suited = record {
          some = omega (arith, some);
          read = multiples c.keyholeread w source count (both_left reads writes b);
          write = multiples c.keyholewrite w destination count (both_right reads writes b);
        };
        same = cc;
      })
      (λ _ e. cc))

  pub start-suits : start_of w c source destination count ≡ Some t → Suited w c source destination count
  start-suits e = (started e).suited

  pub start_fits : start_of w c source destination count ≡ Some t → source < address_end → destination < address_end → count ≤ most_bytes → transfer_fits t ≡ true
  start_fits e f g h =
      let s = started e in
      subst (λ (x : Transfer). transfer_fits x ≡ true) (sym s.same)
      (transfer-fits-test (asked source destination count)
      (record { moved-less = s.suited.some; total-small = h; source-inside = omega (arith, f); destination-inside = omega (arith, g) }))

-- ---- the other way: a transfer that suits moves

suited : (fixed : Bool) (w start count : ℕ) → (fixed ≡ true → (start % w ≡ 0) × (count % w ≡ 0)) → suits fixed w start count ≡ true
suited true w start count h = let p = h refl in both-join (eq-eqb (start % w) 0 p.0) (eq-eqb (count % w) 0 p.1)
suited false w start count h = refl

above : (n : ℕ) → 0 < n → (eqb n 0 ≡ true) ⊎ (eqb n 0 ≡ false) → eqb n 0 ≡ false
above n h (inl e) = let z = eqb-true n 0 e in absurd (omega (arith, z, h))
above n h (inr e) = e

pub suited-starts : (w : ℕ) (c : Control) (source destination count : ℕ) → Suited w c source destination count
    → start_of w c source destination count ≡ Some (asked source destination count)
suited-starts w c source destination count h =
    sym (no None (above count h.some (decide (eqb count 0)))
    (yes None (both-join (suited c.keyholeread w source count h.read) (suited c.keyholewrite w destination count h.write)) refl))
