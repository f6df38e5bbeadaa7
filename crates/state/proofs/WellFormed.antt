-- A state that is well formed, as named facts: from the test and back to it.
use mathlib.Core.Path.{◌≡◌, refl, ap}
use Prim.Native.Nat.{ℕ, ◌+◌, ◌%◌}
use mathlib.Core.Bool.{Bool, true, false, not}
use lib.Dec.{eqb, leb, ltb}
use borrow.Author.Tests.{eqb-true, eq-eqb, ltb-true, lt-ltb, leb-true, le-leb}
use Rattle.kit.specs.Choice.{both}
use Rattle.kit.specs.Limits.{most_bytes, address_end}
use Rattle.kit.proofs.Choice.{both_left, both_right, both-join, never}
use Rattle.kit.specs.declared.settings.Settings.{Settings}
use Rattle.state.specs.declared.engine.Transfer.{Transfer}
use Rattle.state.specs.declared.engine.Engine.{Engine}
pub use Rattle.state.specs.Claims.{TransferFits, WellFormed}
use Rattle.state.specs.State.{fresh_of, busy_of, error_set_of, aligned, transfer_fits, phase_fits, well_formed_of}

-- four tests joined, and each of them
four : (t u v w : Bool) → both t (both u (both v w)) ≡ true → (t ≡ true) × (u ≡ true) × (v ≡ true) × (w ≡ true)
four t u v w e =
    let f = both_right t (both u (both v w)) e in
    let g = both_right u (both v w) f in
    (both_left t (both u (both v w)) e, both_left u (both v w) f, both_left v w g, both_right v w g)

pub transfer-fits : (t : Transfer) → transfer_fits t ≡ true → TransferFits t
transfer-fits t e =
    let f =
    four (ltb t.moved t.total) (leb t.total most_bytes) (ltb (t.source + t.moved) address_end) (ltb (t.destination + t.moved) address_end) e in
    record {
      moved-less = ltb-true _ _ f.0;
      total-small = leb-true _ _ f.1;
      source-inside = ltb-true _ _ f.2;
      destination-inside = ltb-true _ _ f.3;
    }

pub transfer-fits-test : (t : Transfer) → TransferFits t → transfer_fits t ≡ true
transfer-fits-test t h =
    both-join (lt-ltb _ _ h.moved-less)
    (both-join (le-leb _ _ h.total-small) (both-join (lt-ltb _ _ h.source-inside) (lt-ltb _ _ h.destination-inside)))

-- not both, and one of them: the other fails
other-fails : (t u : Bool) → not (both t u) ≡ true → t ≡ true → u ≡ false
other-fails true true e h = absurd (never e)
other-fails true false e h = refl
other-fails false u e h = absurd (never h)

pub not-both : (t u : Bool) → (t ≡ true → u ≡ false) → not (both t u) ≡ true
not-both true u f = ap not (f refl)
not-both false u f = refl

-- the four parts of the test
pub record Parts (s : Engine) : Type 0 where
  pub pointers : aligned s.pointers ≡ true
  pub count : leb s.simple.btt most_bytes ≡ true
  pub error : not (both (error_set_of s.status.fault) (busy_of s.phase)) ≡ true
  pub phase : phase_fits s.phase s.control.sgmode ≡ true

pub parts : (s : Engine) → well_formed_of s ≡ true → Parts s
unfolding well_formed_of
parts s e =
    let f =
    four (aligned s.pointers) (leb s.simple.btt most_bytes) (not (both (error_set_of s.status.fault) (busy_of s.phase))) (phase_fits s.phase s.control.sgmode) e in
    record { pointers = f.0; count = f.1; error = f.2; phase = f.3 }

pub joined : (s : Engine) → Parts s → well_formed_of s ≡ true
unfolding well_formed_of
joined s p = both-join p.pointers (both-join p.count (both-join p.error p.phase))

pub aligned-test : (current tail next held : ℕ) → current % 64 ≡ 0 → tail % 64 ≡ 0 → next % 64 ≡ 0 → held % 64 ≡ 0
    → aligned (record { current = current; tail = tail; next = next; heldnext = held }) ≡ true
aligned-test current tail next held c t n h =
    both-join (eq-eqb (current % 64) 0 c) (both-join (eq-eqb (tail % 64) 0 t) (both-join (eq-eqb (next % 64) 0 n) (eq-eqb (held % 64) 0 h)))

pub well-formed : (s : Engine) → well_formed_of s ≡ true → WellFormed s
well-formed s e =
    let p = parts s e in
    let a =
    four (eqb (s.pointers.current % 64) 0) (eqb (s.pointers.tail % 64) 0) (eqb (s.pointers.next % 64) 0) (eqb (s.pointers.heldnext % 64) 0) p.pointers in
    record {
      current-aligned = eqb-true _ _ a.0;
      tail-aligned = eqb-true _ _ a.1;
      next-aligned = eqb-true _ _ a.2;
      held-aligned = eqb-true _ _ a.3;
      count_small = leb-true _ _ p.count;
      error-idle = other-fails (error_set_of s.status.fault) (busy_of s.phase) p.error;
      phase-fits = p.phase;
    }

pub well-formed-test : (s : Engine) → WellFormed s → well_formed_of s ≡ true
well-formed-test s h =
    joined s (record {
      pointers = aligned-test _ _ _ _ h.current-aligned h.tail-aligned h.next-aligned h.held-aligned;
      count = le-leb _ _ h.count_small;
      error = not-both (error_set_of s.status.fault) (busy_of s.phase) h.error-idle;
      phase = h.phase-fits;
    })

pub fresh-well-formed : (x : Settings) → well_formed_of (fresh_of x) ≡ true
unfolding well_formed_of
fresh-well-formed x = refl
