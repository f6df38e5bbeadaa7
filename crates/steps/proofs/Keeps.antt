-- What a step keeps: what only a register write changes, the memory's length and bytes, and the state's being well formed.
use mathlib.Core.Path.{◌≡◌, refl, sym, ap, subst, ◌∙◌}
use Prim.Native.Nat.{ℕ, ◌+◌, ◌/◌, ◌≤◌, ◌<◌}
use mathlib.Core.Bool.{Bool, true, false}
use mathlib.Core.List.{List}
use native.Mathlib.Nat.{mul-mod_left}
use native.Mathlib.Omega.{arith}
use lib.ListN.{length}
use lib.Seq.{length-sets}
use lib.Dec.{eqb}
use borrow.Author.Tests.{eqb-false}
use Rattle.kit.specs.Limits.{most_bytes, most_memory, address_end}
use Rattle.kit.specs.Settings.{legal_of}
use Rattle.kit.specs.Word.{word_at, bytes_of}
use Rattle.kit.proofs.Choice.{cases, never}
use Rattle.memory.specs.declared.window.Window.{Window}
use Rattle.sides.proofs.Claims.{claims}
use Rattle.state.specs.declared.engine.Status.{Status}
use Rattle.state.specs.declared.engine.Engine.{Engine}
use Rattle.state.specs.declared.engine.Transfer.{Transfer}
use Rattle.state.specs.declared.engine.ErrorBit.{ErrorBit}
use Rattle.state.specs.declared.engine.ErrorBit.TheVariants.{DmaIntErr, DmaSlvErr, DmaDecErr}
use Rattle.state.specs.declared.engine.Outcome.{Outcome}
use Rattle.state.specs.declared.engine.Outcome.TheVariants.{Complete, Internal, Slave, Decode}
use Rattle.state.specs.declared.engine.Phase.{Phase}
use Rattle.state.specs.declared.engine.Phase.TheVariants.{Idle, Move, Update}
use Rattle.std.specs.Prelude.{Option, Some, None}
use Rattle.state.specs.declared.engine.Control.{Control}
use Rattle.state.specs.Descriptor.{start_of}
use Rattle.state.specs.State.{busy_of, error_set_of, phase_fits, with_status, with_phase}
use Rattle.state.proofs.Start as start
use Rattle.state.proofs.WellFormed.{transfer-fits, transfer-fits-test, WellFormed, well-formed, well-formed-test}
use Rattle.steps.specs.Step.{AfterAdvance, stop_on_error_of, phase_after_fetch_of, finish_transfer_of, read_place, write_place, next_bytes, status_place, status_word_of, complete_descriptor_of, retire_of, advance_of}
use Rattle.steps.specs.Claims.{Bytes, Lasts, AdvanceKeeps, AdvanceWellFormed}
use Rattle.steps.proofs.Advances.{Advance, rests, halts, fetches, moves, faults, updates, descriptor, advances}
use Rattle.steps.proofs.Bursts.{burst-fits, answer-low}
use Rattle.steps.proofs.Stored.{word_fits, sets-bytes, moved-bytes, word_bytes}

-- ---- what only a register write changes, and the memory

pub lasts-same : (s : Engine) → Lasts s s
lasts-same s = record { settings = refl; control = refl; tail = refl; simple = refl }

pub lasts_on : {s x y : Engine} → Lasts s x → Lasts x y → Lasts s y
lasts_on a b = record {
  settings = b.settings ∙ a.settings;
  control = b.control ∙ a.control;
  tail = b.tail ∙ a.tail;
  simple = b.simple ∙ a.simple;
}

module _ (s : Engine) (m : List ℕ) where
  retire-lasts : (o : Outcome) → Lasts s (retire_of s o)
  retire-lasts Complete =
      cases (Lasts s) (eqb s.pointers.current s.pointers.tail) (λ _. record { settings = refl; control = refl; tail = refl; simple = refl }) (λ _. record { settings = refl; control = refl; tail = refl; simple = refl })
  retire-lasts Internal = record { settings = refl; control = refl; tail = refl; simple = refl }
  retire-lasts Slave = record { settings = refl; control = refl; tail = refl; simple = refl }
  retire-lasts Decode = record { settings = refl; control = refl; tail = refl; simple = refl }

  engine-lasts : {windows : List Window} {r : AfterAdvance} → Advance s m windows r → Lasts s r.engine
  engine-lasts (rests e) = record { settings = refl; control = refl; tail = refl; simple = refl }
  engine-lasts (halts e b f) = record { settings = refl; control = refl; tail = refl; simple = refl }
  engine-lasts (fetches e okay fresh) = record { settings = refl; control = refl; tail = refl; simple = refl }
  engine-lasts (moves t e okay) =
      cases (Lasts s) (eqb (t.moved + next_bytes s t) t.total)
      (λ _. cases (Lasts s) s.control.sgmode (λ _. record { settings = refl; control = refl; tail = refl; simple = refl }) (λ _. record { settings = refl; control = refl; tail = refl; simple = refl }))
      (λ _. record { settings = refl; control = refl; tail = refl; simple = refl })
  engine-lasts (faults t e o f b g) = cases (Lasts s) s.control.sgmode (λ _. record { settings = refl; control = refl; tail = refl; simple = refl }) (λ _. record { settings = refl; control = refl; tail = refl; simple = refl })
  engine-lasts (updates o e okay) = retire-lasts o

  memory-length : {windows : List Window} {r : AfterAdvance} → Advance s m windows r → length r.memory ≡ length m
  memory-length (rests e) = refl
  memory-length (halts e b f) = refl
  memory-length (fetches e okay fresh) = refl
  memory-length (moves t e okay) = claims.length-stays m (read_place s.settings s.control.keyholeread t) (write_place s.settings s.control.keyholewrite t) t.moved (next_bytes s t)
  memory-length (faults t e o f b g) = refl
  memory-length (updates o e okay) = length-sets m (status_place s) (bytes_of (status_word_of o))

  memory-bytes : {windows : List Window} {r : AfterAdvance} → Advance s m windows r → Bytes m → Bytes r.memory
  memory-bytes (rests e) h = h
  memory-bytes (halts e b f) h = h
  memory-bytes (fetches e okay fresh) h = h
  memory-bytes (moves t e okay) h = moved-bytes m (read_place s.settings s.control.keyholeread t) (write_place s.settings s.control.keyholewrite t) t.moved (next_bytes s t) h
  memory-bytes (faults t e o f b g) h = h
  memory-bytes (updates o e okay) h = sets-bytes m (status_place s) (bytes_of (status_word_of o)) h (word_bytes (status_word_of o))

pub advance-keeps : AdvanceKeeps
advance-keeps s m windows =
    let a = advances s m windows in
    record { engine = engine-lasts s m a; length = memory-length s m a; bytes = memory-bytes s m a }

-- ---- well formed

-- a busy state has no error bit
no-error : (s : Engine) → WellFormed s → busy_of s.phase ≡ true → error_set_of s.status.fault ≡ true → ⊥
no-error s h busy e = never (sym (h.error-idle e) ∙ busy)

-- a state of the same pointers and registers whose status and phase go together
pair-well : (s : Engine) (status : Status) (p : Phase) → WellFormed s → (error_set_of status.fault ≡ true → busy_of p ≡ false)
    → phase_fits p s.control.sgmode ≡ true → WellFormed (with_phase (with_status s status) p)
pair-well s status p h idle fits = record {
  current-aligned = h.current-aligned;
  tail-aligned = h.tail-aligned;
  next-aligned = h.next-aligned;
  held-aligned = h.held-aligned;
  count_small = h.count_small;
  error-idle = idle;
  phase-fits = fits;
}

start_fits : (w : ℕ) (c : Control) (source destination total : ℕ) (chain : Bool) → chain ≡ true → source < address_end → destination < address_end
    → total ≤ most_bytes → phase_fits (phase_after_fetch_of (start_of w c source destination total)) chain ≡ true
start_fits w c source destination total chain e hs hd ht = go (start_of w c source destination total) refl
  where
    go : (x : Option Transfer) → start_of w c source destination total ≡ x → phase_fits (phase_after_fetch_of x) chain ≡ true
    go (Some t) f = start.start_fits w c source destination total t f hs hd ht
    go None f = e

module _ (s : Engine) (m : List ℕ) (windows : List Window) (legals : legal_of s.settings ≡ true)
    (small : length m ≤ most_memory) (bytes : Bytes m) (h : WellFormed s) where
  halted-well : (b : ErrorBit) → WellFormed (stop_on_error_of s b)
  halted-well b = pair-well s (record { fault = b; ioc = s.status.ioc; err = true }) Idle h (λ _. refl) refl

  -- a busy state that goes on to a phase that fits
  phase-well : (p : Phase) → busy_of s.phase ≡ true → phase_fits p s.control.sgmode ≡ true → WellFormed (with_phase s p)
  phase-well p busy fits = pair-well s s.status p h (λ e. absurd (no-error s h busy e)) fits

  finished-well : busy_of s.phase ≡ true → WellFormed (finish_transfer_of s)
  finished-well busy =
      cases WellFormed s.control.sgmode (λ e. phase-well (Update Complete) busy e)
      (λ _. pair-well s (record { fault = s.status.fault; ioc = true; err = s.status.err }) Idle h (λ _. refl) refl)

  -- the phase's own condition
  fits : {p : Phase} → s.phase ≡ p → phase_fits p s.control.sgmode ≡ true
  fits e = subst (λ (p : Phase). phase_fits p s.control.sgmode ≡ true) e h.phase-fits

  completed-well : s.control.sgmode ≡ true → busy_of s.phase ≡ true → WellFormed (complete_descriptor_of s)
  completed-well chain busy = cases WellFormed (eqb s.pointers.current s.pointers.tail)
      (λ _. record {
        current-aligned = h.current-aligned;
        tail-aligned = h.tail-aligned;
        next-aligned = h.held-aligned;
        held-aligned = h.held-aligned;
        count_small = h.count_small;
        error-idle = λ _. refl;
        phase-fits = refl;
      })
      (λ _. record {
        current-aligned = h.held-aligned;
        tail-aligned = h.tail-aligned;
        next-aligned = h.held-aligned;
        held-aligned = h.held-aligned;
        count_small = h.count_small;
        error-idle = λ e. absurd (no-error s h busy e);
        phase-fits = chain;
      })

  retired-well : s.control.sgmode ≡ true → busy_of s.phase ≡ true → (o : Outcome) → WellFormed (retire_of s o)
  retired-well chain busy Complete = completed-well chain busy
  retired-well chain busy Internal = halted-well DmaIntErr
  retired-well chain busy Slave = halted-well DmaSlvErr
  retired-well chain busy Decode = halted-well DmaDecErr

  view-well : {r : AfterAdvance} → Advance s m windows r → WellFormed r.engine
  view-well (rests e) = h
  view-well (halts e b f) = halted-well b
  view-well (fetches e okay fresh) =
      let at = s.pointers.current in
      let d = descriptor s m windows in
      record {
        current-aligned = h.current-aligned;
        tail-aligned = h.tail-aligned;
        next-aligned = h.next-aligned;
        held-aligned = mul-mod_left (word_at m (at + 0) / 64) 64;
        count_small = h.count_small;
        error-idle = λ x. absurd (no-error s h (ap busy_of e) x);
        phase-fits = start_fits s.settings.width s.control d.source d.destination d.count s.control.sgmode (fits e)
            (word_fits m bytes (at + 0x08)) (word_fits m bytes (at + 0x10)) (omega arith);
      }
  view-well (moves t e okay) =
      let busy = ap busy_of e in
      let f = transfer-fits t (fits e) in
      let p = burst-fits s t legals (fits e) in
      let n = next_bytes s t in
      let low = answer-low s.settings s.control.keyholeread s.control.keyholewrite t (length m) windows n okay p.some in
      cases WellFormed (eqb (t.moved + n) t.total) (λ _. finished-well busy)
      (λ z. let short = eqb-false (t.moved + n) t.total z in
      let u : Transfer = record { source = t.source; destination = t.destination; total = t.total; moved = t.moved + n } in
      phase-well (Move u) busy
      (transfer-fits-test u
      (record {
        moved-less = omega (arith, short);
        total-small = f.total-small;
        source-inside = omega (arith, low.0, p.within, f.total-small, small);
        destination-inside = omega (arith, low.1, p.within, f.total-small, small);
      })))
  view-well (faults t e o f b g) = cases WellFormed s.control.sgmode (λ c. phase-well (Update o) (ap busy_of e) c) (λ _. halted-well b)
  view-well (updates o e okay) = retired-well (fits e) (ap busy_of e) o

pub advance-well-formed : AdvanceWellFormed
advance-well-formed s m windows legals small bytes e =
    well-formed-test (advance_of s m windows).engine (view-well s m windows legals small bytes (well-formed s e) (advances s m windows))
