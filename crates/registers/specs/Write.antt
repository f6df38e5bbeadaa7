-- RULES.md, "Registers": what a write does.
use Rattle.std.specs.Prelude.{ℕ, Bool, true, not, eqb, Option, Some, None, Result, Ok, Err}
use Rattle.kit.specs.Choice.{when, both, either}
use Rattle.kit.specs.Answer.{number_of, answer_number}
use Rattle.kit.specs.Settings.{among, legal_of}
use Rattle.state.specs.declared.engine.Engine.{Engine}
use Rattle.kit.specs.declared.answer.Refusal.{Refusal}
use Rattle.state.specs.declared.engine.Control.{Control}
use Rattle.state.specs.declared.engine.Status.{Status}
use Rattle.state.specs.declared.engine.Transfer.{Transfer}
use Rattle.state.specs.declared.engine.ErrorBit.TheVariants.{DmaIntErr}
use Rattle.state.specs.declared.engine.Phase.{Phase}
use Rattle.state.specs.declared.engine.Phase.TheVariants.{Fetch, Move}
use Rattle.state.specs.State.{fresh_of, busy_of, error_set_of, well_formed_of, with_control, with_status, with_current, with_tail, with_next, with_sa, with_da, with_btt, with_phase}
use Rattle.state.specs.Bits.{bit, pointer, reset, sg_mode, key_hole_read, key_hole_write, ioc_irq_en, err_irq_en, ioc_irq, err_irq}
use Rattle.state.specs.Descriptor.{count_of, start_of}
use Rattle.reads.specs.Read.{upper_halves}

-- an answer's number and the state after it; a refusal leaves the state as it was
pub record AfterWrite : Type 0 where
  pub answer : ℕ
  pub engine : Engine

abbrev pub done : Engine → AfterWrite
done s = record { answer = 0; engine = s }

abbrev pub ignored : ℕ → Engine → AfterWrite
ignored n s = record { answer = n; engine = s }

-- two tests that differ
abbrev pub differ : Bool → Bool → Bool
differ a b = when a (not b) b

-- a write that an error bit (5) or a bar (4) stops
abbrev pub guard_of : Engine → Bool → Engine → AfterWrite
guard_of s barred next = when (error_set_of s.status.fault) (ignored 5 s) (when barred (ignored 4 s) (done next))

-- CDMACR's kept bits in a value
abbrev pub control_from : ℕ → Control
control_from v = record {
  sgmode = bit sg_mode v;
  keyholeread = bit key_hole_read v;
  keyholewrite = bit key_hole_write v;
  iocen = bit ioc_irq_en v;
  erren = bit err_irq_en v;
}

-- one of those that an engine keeps while busy differs: SGMode and the key hole bits
abbrev pub mode_differs : Control → Control → Bool
mode_differs c d =
    either (differ c.sgmode d.sgmode) (either (differ c.keyholeread d.keyholeread) (differ c.keyholewrite d.keyholewrite))

-- CDMACR: bit 2 resets to a fresh state with the same settings; a change of SGMode or a key hole bit while busy: 4
abbrev pub write_control_of : Engine → ℕ → AfterWrite
write_control_of s v =
    when (bit reset v) (done (fresh_of s.settings))
    (when (both (busy_of s.phase) (mode_differs (control_from v) s.control)) (ignored 4 s) (done (with_control s (control_from v))))

-- CDMASR: writing 1 clears bits 12 and 14
abbrev pub cleared_of : Status → ℕ → Status
cleared_of t v = record { fault = t.fault; ioc = both (not (bit ioc_irq v)) t.ioc; err = both (not (bit err_irq v)) t.err }

abbrev pub write_status_of : Engine → ℕ → AfterWrite
write_status_of s v = done (with_status s (cleared_of s.status v))

-- CURDESC: sets the next pointer too; busy: 4
abbrev pub write_current_of : Engine → ℕ → AfterWrite
write_current_of s v = guard_of s (busy_of s.phase) (with_next (with_current s (pointer v)) (pointer v))

-- TAILDESC: idle, it starts: current becomes next, phase fetch; busy, it only replaces the tail
abbrev pub tail_written : Engine → ℕ → Engine
tail_written s v =
    let kept = with_tail s (pointer v) in
    when (busy_of s.phase) kept (with_phase (with_current kept s.pointers.next) Fetch)

-- simple mode: 4
abbrev pub write_tail_of : Engine → ℕ → AfterWrite
write_tail_of s v = guard_of s (not s.control.sgmode) (tail_written s v)

-- SA, DA: busy: 4
abbrev pub write_source_of : Engine → ℕ → AfterWrite
write_source_of s v = guard_of s (busy_of s.phase) (with_sa s v)

abbrev pub write_destination_of : Engine → ℕ → AfterWrite
write_destination_of s v = guard_of s (busy_of s.phase) (with_da s v)

-- a transfer that starts moves; an internal error sets DMAIntErr and Err_Irq, and the engine stays idle
abbrev pub started_phase : Option Transfer → Phase → Phase
started_phase (Some t) p = Move t
started_phase None p = p

abbrev pub started_status : Option Transfer → Status → Status
started_status (Some t) x = x
started_status None x = record { fault = DmaIntErr; ioc = x.ioc; err = true }

abbrev pub started_of : Engine → Option Transfer → Engine
started_of s start = with_phase (with_status s (started_status start s.status)) (started_phase start s.phase)

-- BTT: keeps the low 23 bits and starts; busy or chain mode: 4
abbrev pub write_count_of : Engine → ℕ → AfterWrite
write_count_of s v =
    guard_of s (either (busy_of s.phase) s.control.sgmode)
    (started_of (with_btt s (count_of v)) (start_of s.settings.width s.control s.simple.sa s.simple.da (count_of v)))

-- each register's rule; upper halves: written without effect; any other offset: 3
unfoldable pub register_written_of : Engine → ℕ → ℕ → AfterWrite
register_written_of s offset v =
    when (eqb offset 0x00) (write_control_of s v)
    (when (eqb offset 0x04) (write_status_of s v)
    (when (eqb offset 0x08) (write_current_of s v)
    (when (eqb offset 0x10) (write_tail_of s v)
    (when (eqb offset 0x18) (write_source_of s v)
    (when (eqb offset 0x20) (write_destination_of s v)
    (when (eqb offset 0x28) (write_count_of s v)
    (when (among offset upper_halves) (done s) (ignored 3 s))))))))

-- answers 1, 9, 3, 5 and 4 in their order, else the register's rule
abbrev pub write_of : Engine → ℕ → ℕ → AfterWrite
write_of s offset v =
    when (legal_of s.settings)
    (when (well_formed_of s) (register_written_of s offset v) (ignored 9 s))
    (ignored 1 s)

-- the code's result of a write to s, as a caller sees it
abbrev pub write_seen : Engine → Result Engine Refusal → AfterWrite
write_seen s (Ok next) = done next
write_seen s (Err refusal) = ignored (number_of refusal) s

-- what a write leaves of a lent engine beside its answer
abbrev pub left : {A : Type 0} → Result A Refusal → Engine → AfterWrite
left r next = record { answer = answer_number r; engine = next }
