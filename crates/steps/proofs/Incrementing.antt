-- A move where neither side is fixed.
use mathlib.Core.Path.{◌≡◌, refl, sym, ap, ap₂, subst, ◌∙◌}
use mathlib.Core.Bool.{Bool, true, false}
use mathlib.Core.List.{List}
use Prim.Native.Nat.{ℕ, ◌-◌}
use lib.ListN.{length}
use Rattle.kit.specs.Settings.{legal_of}
use Rattle.cut.specs.Cut.{burst_bytes}
use Rattle.memory.specs.declared.window.Window.{Window}
use Rattle.memory.specs.declared.verdict.Verdict.{Verdict}
use Rattle.memory.specs.declared.verdict.Verdict.TheVariants.{Okay, Slave as SlaveError, Decode as DecodeError}
use Rattle.memory.specs.Verdict.{pair_of}
use Rattle.memory.proofs.Groups.{pair-okay-fits}
use Rattle.places.specs.Places.{first_found, address_of}
use Rattle.places.proofs.Words.{plain-lowest}
use Rattle.state.specs.declared.engine.Engine.{Engine}
use Rattle.state.specs.declared.engine.Transfer.{Transfer}
use Rattle.state.specs.declared.engine.ErrorBit.TheVariants.{DmaSlvErr, DmaDecErr}
use Rattle.state.specs.declared.engine.Outcome.TheVariants.{Slave, Decode}
use Rattle.state.specs.declared.engine.Phase.{Phase}
use Rattle.state.specs.State.{transfer_fits, phase_fits, with_control}
use Rattle.state.proofs.WellFormed.{well-formed}
use Rattle.steps.specs.Step.{advance_seen, reads_at, writes_at, fault_at, after_burst_of, after_fault_of, move_burst_by, move_burst_of}
use Rattle.steps.specs.Incrementing.{pair_place, incrementing_by, incrementing_of, Incrementing}
use Rattle.steps.proofs.Advances.{advance-by}
use Rattle.steps.proofs.Bursts.{bytes_fit, answer-incrementing, moved-incrementing}

module _ (s : Engine) (t : Transfer) (m : List ℕ) (windows : List Window) (legals : legal_of s.settings ≡ true) (fits : transfer_fits t ≡ true) where
  -- the engine with these key hole bits
  abbrev with_bits : Bool → Bool → Engine
  with_bits reads writes =
      with_control s (record { sgmode = s.control.sgmode; keyholeread = reads; keyholewrite = writes; iocen = s.control.iocen; erren = s.control.erren })

  abbrev bytes : ℕ
  bytes = burst_bytes s.settings.width s.settings.beats (writes_at t) (t.total - t.moved)

  abbrev verdict : Verdict
  verdict = pair_of (length m) windows (reads_at t) (writes_at t) bytes

  fails-at : (v : Verdict) → fault_at (with_bits false false) t (length m) windows bytes v ≡ pair_place t (length m) windows bytes v
  fails-at v =
      ap address_of
      (ap₂ first_found (plain-lowest (length m) windows v s.settings.width t.source t.moved bytes) (plain-lowest (length m) windows v s.settings.width t.destination t.moved bytes))

  by-verdict : (v : Verdict) → verdict ≡ v → move_burst_by (with_bits false false) t m windows bytes v ≡ incrementing_by (with_bits false false) t m windows bytes v
  by-verdict Okay e =
      ap (advance_seen (after_burst_of (with_bits false false) t (writes_at t) bytes))
      (moved-incrementing s.settings t m bytes (pair-okay-fits (length m) windows (reads_at t) (writes_at t) bytes e (bytes_fit s.settings false t legals fits).some).0)
  by-verdict SlaveError e = ap (λ (p : ℕ). advance_seen (after_fault_of (with_bits false false) p Slave DmaSlvErr) m) (fails-at SlaveError)
  by-verdict DecodeError e = ap (λ (p : ℕ). advance_seen (after_fault_of (with_bits false false) p Decode DmaDecErr) m) (fails-at DecodeError)

  both-clear : move_burst_of (with_bits false false) t m windows ≡ incrementing_of (with_bits false false) t m windows
  both-clear = ap (move_burst_by (with_bits false false) t m windows bytes) (answer-incrementing s.settings t (length m) windows bytes) ∙ by-verdict verdict refl

  moves-incrementing : s.control.keyholeread ≡ false → s.control.keyholewrite ≡ false → move_burst_of s t m windows ≡ incrementing_of s t m windows
  moves-incrementing reading writing =
      subst (λ (x : Engine). move_burst_of x t m windows ≡ incrementing_of x t m windows) (λ i. with_bits (sym reading i) (sym writing i)) both-clear

pub incrementing : Incrementing
incrementing s t m windows legals well e reading writing =
    let fits = subst (λ (p : Phase). phase_fits p s.control.sgmode ≡ true) e (well-formed s well).phase-fits in
    sym (advance-by s m windows e refl) ∙ moves-incrementing s t m windows legals fits reading writing
