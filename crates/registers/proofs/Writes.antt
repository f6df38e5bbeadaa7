-- Every write is refused or one of the changes of specs/Changes.antt, and what it keeps goes by these cases.
use mathlib.Core.Path.{◌≡◌, refl, sym, ap, ◌∙◌}
use Prim.Native.Nat.{ℕ, ◌/◌, ◌%◌, ◌^◌, ◌<◌}
use mathlib.Core.Bool.{Bool, true, false, not}
use native.Mathlib.Nat.{mul-mod_left, mod-lt}
use native.Mathlib.Omega.{arith}
use lib.Dec.{eqb, leb}
use borrow.Author.Tests.{not-false, eqb-true, le-leb, leb-true}
use Rattle.kit.specs.Choice.{both, either}
use Rattle.kit.specs.Limits.{most_bytes}
use Rattle.kit.specs.Settings.{among, legal_of}
use Rattle.kit.proofs.Choice.{cases, never, neither}
use Rattle.std.specs.Prelude.{Option, Some, None, Result, Err, ⊤}
use Rattle.kit.specs.Answer.{number_of}
use Rattle.kit.specs.declared.answer.Refusal.{Refusal}
use Rattle.reads.proofs.Refused.{refused as no-number}
use Rattle.state.specs.declared.engine.Control.{Control}
use Rattle.state.specs.declared.engine.Engine.{Engine}
use Rattle.state.specs.declared.engine.Transfer.{Transfer}
use Rattle.state.specs.declared.engine.Phase.{Phase}
use Rattle.state.specs.declared.engine.Phase.TheVariants.{Idle, Fetch, Move, Update}
use Rattle.state.specs.State.{busy_of, error_set_of, phase_fits, well_formed_of, with_btt}
use Rattle.state.specs.Bits.{bit, pointer, reset, alignment}
use Rattle.state.specs.Descriptor.{count_of, start_of}
use Rattle.state.proofs.Start.{start_fits}
use Rattle.state.proofs.WellFormed.{WellFormed, Parts, well-formed, parts, joined, aligned-test, not-both, fresh-well-formed}
use Rattle.reads.specs.Read.{upper_halves}
use Rattle.registers.specs.Write.{AfterWrite, differ, control_from, mode_differs, guard_of, write_control_of, write_tail_of, started_of, write_count_of, register_written_of, write_of, ignored, left}
use Rattle.registers.specs.Changes.{Free, Change, resets, controls, clears, points, extends, fetches, sources, destinations, moves, fails, nothing, Write, refused, changed}
use Rattle.registers.specs.Claims.{Words}

-- ---- the view

module _ (s : Engine) (offset v : ℕ) where
  abbrev W : AfterWrite → Type 0
  W = Write s offset v

  guard : (bar : Bool) (next : Engine) → (error_set_of s.status.fault ≡ false → bar ≡ false → Change s offset v next) → W (guard_of s bar next)
  guard bar next f =
      cases W (error_set_of s.status.fault) (λ _. refused 5 (omega arith))
      (λ e. cases W bar (λ _. refused 4 (omega arith)) (λ b. changed (f e b)))

  -- a rule that is barred while busy
  guard-busy : (next : Engine) → (Free s → Change s offset v next) → W (guard_of s (busy_of s.phase) next)
  guard-busy next f = guard (busy_of s.phase) next (λ e b. f (record { no-error = e; idle = b }))

  control : offset ≡ 0x00 → W (write_control_of s v)
  control o =
      cases W (bit reset v) (λ e. changed (resets o e))
      (λ e. cases W (both (busy_of s.phase) (mode_differs (control_from v) s.control)) (λ _. refused 4 (omega arith)) (λ b. changed (controls o e b)))

  tail : offset ≡ 0x10 → W (write_tail_of s v)
  tail o =
      guard (not s.control.sgmode) _
      (λ e m. cases (Change s offset v) (busy_of s.phase) (extends o (not-false _ m) e)
      (λ b. fetches o (not-false _ m) (record { no-error = e; idle = b })))

  started : offset ≡ 0x28 → s.control.sgmode ≡ false → Free s → (x : Option Transfer) → start_of s.settings.width s.control s.simple.sa s.simple.da (count_of v) ≡ x
      → Change s offset v (started_of (with_btt s (count_of v)) x)
  started o m f (Some t) e = moves o m f t e
  started o m f None e = fails o m f e

  count : offset ≡ 0x28 → W (write_count_of s v)
  count o =
      guard (either (busy_of s.phase) s.control.sgmode) _
      (λ e n. let (b, m) = neither (busy_of s.phase) s.control.sgmode n in
      started o m (record { no-error = e; idle = b }) (start_of s.settings.width s.control s.simple.sa s.simple.da (count_of v)) refl)

  registered : W (register_written_of s offset v)
  unfolding register_written_of
  registered =
      cases W (eqb offset 0x00) (λ e. control (eqb-true offset 0x00 e))
      (λ _. cases W (eqb offset 0x04) (λ e. changed (clears (eqb-true offset 0x04 e)))
      (λ _. cases W (eqb offset 0x08) (λ e. guard-busy _ (points (eqb-true offset 0x08 e)))
      (λ _. cases W (eqb offset 0x10) (λ e. tail (eqb-true offset 0x10 e))
      (λ _. cases W (eqb offset 0x18) (λ e. guard-busy _ (sources (eqb-true offset 0x18 e)))
      (λ _. cases W (eqb offset 0x20) (λ e. guard-busy _ (destinations (eqb-true offset 0x20 e)))
      (λ _. cases W (eqb offset 0x28) (λ e. count (eqb-true offset 0x28 e))
      (λ _. cases W (among offset upper_halves) (λ e. changed (nothing e)) (λ _. refused 3 (omega arith)))))))))

  pub writes : Write s offset v (write_of s offset v)
  writes =
      cases W (legal_of s.settings) (λ _. cases W (well_formed_of s) (λ _. registered) (λ _. refused 9 (omega arith)))
      (λ _. refused 1 (omega arith))

-- ---- what a write keeps

settings-stay : {s : Engine} {offset v : ℕ} {t : Engine} → Change s offset v t → t.settings ≡ s.settings
settings-stay (resets _ _) = refl
settings-stay (controls _ _ _) = refl
settings-stay (clears _) = refl
settings-stay (points _ _) = refl
settings-stay (extends _ _ _ _) = refl
settings-stay (fetches _ _ _) = refl
settings-stay (sources _ _) = refl
settings-stay (destinations _ _) = refl
settings-stay (moves _ _ _ _ _) = refl
settings-stay (fails _ _ _ _) = refl
settings-stay (nothing _) = refl

pub write-keeps-settings : (s : Engine) (offset v : ℕ) → (write_of s offset v).engine.settings ≡ s.settings
write-keeps-settings s offset v = go (writes s offset v)
  where
    go : {w : AfterWrite} → Write s offset v w → w.engine.settings ≡ s.settings
    go (refused _ _) = refl
    go (changed c) = settings-stay c

-- a refused write leaves the state
pub write-refused : (s : Engine) (offset v : ℕ) {n : ℕ} → (write_of s offset v).answer ≡ n → (n ≡ 0 → ⊥) → (write_of s offset v).engine ≡ s
write-refused s offset v {n} e f = go (writes s offset v) e
  where
    go : {w : AfterWrite} → Write s offset v w → w.answer ≡ n → w.engine ≡ s
    go (refused _ _) _ = refl
    go (changed _) g = absurd (f (sym g))

-- a write to a lent engine that is refused, told of an engine by value
pub refused-stays : (s : Engine) (offset v : ℕ) {r : Result ⊤ Refusal} {refusal : Refusal} {next : Engine} → left r next ≡ write_of s offset v → r ≡ Err refusal
    → ignored (number_of refusal) s ≡ write_of s offset v
refused-stays s offset v {refusal = refusal} {next = next} e is =
    let answered = ap (λ (r : Result ⊤ Refusal). left r next) (sym is) ∙ e in
    let stays = write-refused s offset v (sym (ap (λ (w : AfterWrite). w.answer) answered)) (λ z. no-number refusal (sym z)) in
    cc

words-stay : {s : Engine} {offset v : ℕ} → v < 2 ^ 32 → Words s → {t : Engine} → Change s offset v t → Words t
words-stay h w (resets _ _) = record { source-word = omega arith; destination-word = omega arith }
words-stay h w (controls _ _ _) = w
words-stay h w (clears _) = w
words-stay h w (points _ _) = w
words-stay h w (extends _ _ _ _) = w
words-stay h w (fetches _ _ _) = w
words-stay h w (sources _ _) = record { source-word = h; destination-word = w.destination-word }
words-stay h w (destinations _ _) = record { source-word = w.source-word; destination-word = h }
words-stay h w (moves _ _ _ _ _) = record { source-word = w.source-word; destination-word = w.destination-word }
words-stay h w (fails _ _ _ _) = record { source-word = w.source-word; destination-word = w.destination-word }
words-stay h w (nothing _) = w

pub write-keeps-words : (s : Engine) (offset v : ℕ) → v < 2 ^ 32 → Words s → Words (write_of s offset v).engine
write-keeps-words s offset v h w = go (writes s offset v)
  where
    go : {x : AfterWrite} → Write s offset v x → Words x.engine
    go (refused _ _) = w
    go (changed c) = words-stay h w c

-- a mode that stays as it is while busy still fits the phase
same-mode : (new old : Control) → mode_differs new old ≡ false → old.sgmode ≡ true → new.sgmode ≡ true
same-mode new old d e = go new.sgmode (neither (differ new.sgmode old.sgmode) (either (differ new.keyholeread old.keyholeread) (differ new.keyholewrite old.keyholewrite)) d).0
  where
    go : (chain : Bool) → differ chain old.sgmode ≡ false → chain ≡ true
    go true f = refl
    go false f = sym f ∙ e

mode-fits : (p : Phase) (new old : Control) → both (busy_of p) (mode_differs new old) ≡ false → phase_fits p old.sgmode ≡ true → phase_fits p new.sgmode ≡ true
mode-fits Idle new old d f = refl
mode-fits Fetch new old d f = same-mode new old d f
mode-fits (Move t) new old d f = f
mode-fits (Update o) new old d f = same-mode new old d f

module _ (s : Engine) (offset v : ℕ) (w : Words s) (e : well_formed_of s ≡ true) where
  h : WellFormed s
  h = well-formed s e

  p : Parts s
  p = parts s e

  at : pointer v % alignment ≡ 0
  at = mul-mod_left (v / alignment) alignment

  -- without an error bit a state may be busy
  no-error : error_set_of s.status.fault ≡ false → not (both (error_set_of s.status.fault) true) ≡ true
  no-error f = not-both (error_set_of s.status.fault) true (λ x. absurd (never (sym f ∙ x)))

  kept : leb (count_of v) most_bytes ≡ true
  kept = le-leb (count_of v) most_bytes (omega (arith, mod-lt v {m = 2 ^ 23} (omega arith)))

  parts_stay : {t : Engine} → Change s offset v t → Parts t
  parts_stay (resets _ _) = parts _ (fresh-well-formed s.settings)
  parts_stay (controls _ _ d) =
      record { pointers = p.pointers; count = p.count; error = p.error; phase = mode-fits s.phase (control_from v) s.control d p.phase }
  parts_stay (clears _) = record { pointers = p.pointers; count = p.count; error = p.error; phase = p.phase }
  parts_stay (points _ _) = record {
    pointers = aligned-test (pointer v) s.pointers.tail (pointer v) s.pointers.heldnext at h.tail-aligned at h.held-aligned;
    count = p.count;
    error = p.error;
    phase = p.phase;
  }
  parts_stay (extends _ _ _ _) = record {
    pointers = aligned-test s.pointers.current (pointer v) s.pointers.next s.pointers.heldnext h.current-aligned at h.next-aligned h.held-aligned;
    count = p.count;
    error = p.error;
    phase = p.phase;
  }
  parts_stay (fetches _ m f) = record {
    pointers = aligned-test s.pointers.next (pointer v) s.pointers.next s.pointers.heldnext h.next-aligned at h.next-aligned h.held-aligned;
    count = p.count;
    error = no-error f.no-error;
    phase = m;
  }
  parts_stay (sources _ _) = record { pointers = p.pointers; count = p.count; error = p.error; phase = p.phase }
  parts_stay (destinations _ _) = record { pointers = p.pointers; count = p.count; error = p.error; phase = p.phase }
  parts_stay (moves _ _ f t x) = record {
    pointers = p.pointers;
    count = kept;
    error = no-error f.no-error;
    phase = start_fits s.settings.width s.control s.simple.sa s.simple.da (count_of v) t x w.source-word w.destination-word (leb-true _ _ kept);
  }
  parts_stay (fails _ _ f _) =
      record { pointers = p.pointers; count = kept; error = not-both true (busy_of s.phase) (λ _. f.idle); phase = p.phase }
  parts_stay (nothing _) = p

-- a write keeps the state well formed, also where it is refused
pub write-keeps-well-formed : (s : Engine) (offset v : ℕ) → Words s → well_formed_of s ≡ true → well_formed_of (write_of s offset v).engine ≡ true
write-keeps-well-formed s offset v w e = go (writes s offset v)
  where
    go : {x : AfterWrite} → Write s offset v x → well_formed_of x.engine ≡ true
    go (refused _ _) = e
    go (changed {t} c) = joined t (parts_stay s offset v w e c)
