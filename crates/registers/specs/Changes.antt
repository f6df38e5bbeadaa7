-- RULES.md, "Registers", from the state's side: a write is refused and leaves the state, or is one of these changes.
use Rattle.std.specs.Prelude.{◌≡◌, ℕ, ◌<◌, true, false, Some, None}
use Rattle.kit.specs.Choice.{both}
use Rattle.kit.specs.Settings.{among}
use Rattle.state.specs.declared.engine.Engine.{Engine}
use Rattle.state.specs.declared.engine.Transfer.{Transfer}
use Rattle.state.specs.declared.engine.ErrorBit.TheVariants.{DmaIntErr}
use Rattle.state.specs.declared.engine.Phase.TheVariants.{Fetch, Move}
use Rattle.state.specs.State.{fresh_of, busy_of, error_set_of, with_control, with_status, with_fault, with_err, with_current, with_tail, with_next, with_sa, with_da, with_btt, with_phase}
use Rattle.state.specs.Bits.{bit, pointer, reset}
use Rattle.state.specs.Descriptor.{count_of, start_of}
use Rattle.reads.specs.Read.{upper_halves}
use Rattle.registers.specs.Write.{AfterWrite, done, ignored, control_from, mode_differs, cleared_of}

-- no error bit is set, and the engine is idle
pub record Free (s : Engine) : Type 0 where
  pub no-error : error_set_of s.status.fault ≡ false
  pub idle : busy_of s.phase ≡ false

-- what a write of v makes of a state: the register, what held before, and the state after
pub data Change (s : Engine) (offset v : ℕ) : Engine → Type 0 where
  resets : offset ≡ 0x00 → bit reset v ≡ true → Change s offset v (fresh_of s.settings)
  controls : offset ≡ 0x00 → bit reset v ≡ false → both (busy_of s.phase) (mode_differs (control_from v) s.control) ≡ false
      → Change s offset v (with_control s (control_from v))
  clears : offset ≡ 0x04 → Change s offset v (with_status s (cleared_of s.status v))
  points : offset ≡ 0x08 → Free s → Change s offset v (with_next (with_current s (pointer v)) (pointer v))
  extends : offset ≡ 0x10 → s.control.sgmode ≡ true → error_set_of s.status.fault ≡ false → busy_of s.phase ≡ true
      → Change s offset v (with_tail s (pointer v))
  fetches : offset ≡ 0x10 → s.control.sgmode ≡ true → Free s
      → Change s offset v (with_phase (with_current (with_tail s (pointer v)) s.pointers.next) Fetch)
  sources : offset ≡ 0x18 → Free s → Change s offset v (with_sa s v)
  destinations : offset ≡ 0x20 → Free s → Change s offset v (with_da s v)
  moves : offset ≡ 0x28 → s.control.sgmode ≡ false → Free s → (t : Transfer) → start_of s.settings.width s.control s.simple.sa s.simple.da (count_of v) ≡ Some t
      → Change s offset v (with_phase (with_btt s (count_of v)) (Move t))
  fails : offset ≡ 0x28 → s.control.sgmode ≡ false → Free s → start_of s.settings.width s.control s.simple.sa s.simple.da (count_of v) ≡ None
      → Change s offset v (with_err (with_fault (with_btt s (count_of v)) DmaIntErr) true)
  nothing : among offset upper_halves ≡ true → Change s offset v s

-- a write of v: refused with a number and nothing changed, or carried out with answer 0
pub data Write (s : Engine) (offset v : ℕ) : AfterWrite → Type 0 where
  refused : (n : ℕ) → 0 < n → Write s offset v (ignored n s)
  changed : {t : Engine} → Change s offset v t → Write s offset v (done t)
