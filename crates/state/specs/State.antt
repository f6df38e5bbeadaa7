-- RULES.md, "Registers" and "Numbered answers": the fresh state, busy, error bits, the well-formed state and the
-- interrupt line.
use Rattle.std.specs.Prelude.{ℕ, ◌+◌, ◌%◌, Bool, true, false, not, eqb, leb, ltb}
use Rattle.kit.specs.Choice.{both, either}
use Rattle.kit.specs.Limits.{most_bytes, address_end}
use Rattle.kit.specs.declared.settings.Settings.{Settings}
use Rattle.state.specs.Bits.{alignment}
use Rattle.state.specs.declared.engine.Control.{Control}
use Rattle.state.specs.declared.engine.Status.{Status}
use Rattle.state.specs.declared.engine.Pointers.{Pointers}
use Rattle.state.specs.declared.engine.Simple.{Simple}
use Rattle.state.specs.declared.engine.Transfer.{Transfer}
use Rattle.state.specs.declared.engine.Engine.{Engine}
use Rattle.state.specs.declared.engine.ErrorBit.{ErrorBit}
use Rattle.state.specs.declared.engine.ErrorBit.TheVariants.{Clear, DmaIntErr, DmaSlvErr, DmaDecErr, SgIntErr, SgSlvErr, SgDecErr}
use Rattle.state.specs.declared.engine.Phase.{Phase}
use Rattle.state.specs.declared.engine.Phase.TheVariants.{Idle, Fetch, Move, Update}

-- simple mode, idle, enables and all other registers and pointers 0
abbrev pub fresh_of : Settings → Engine
fresh_of settings = record {
  settings = settings;
  control = record { sgmode = false; keyholeread = false; keyholewrite = false; iocen = false; erren = false };
  status = record { fault = Clear; ioc = false; err = false };
  pointers = record { current = 0; tail = 0; next = 0; heldnext = 0 };
  simple = record { sa = 0; da = 0; btt = 0 };
  phase = Idle;
}

-- busy is: phase not idle
abbrev pub busy_of : Phase → Bool
busy_of Idle = false
busy_of Fetch = true
busy_of (Move t) = true
busy_of (Update o) = true

-- an error bit is set
abbrev pub error_set_of : ErrorBit → Bool
error_set_of Clear = false
error_set_of DmaIntErr = true
error_set_of DmaSlvErr = true
error_set_of DmaDecErr = true
error_set_of SgIntErr = true
error_set_of SgSlvErr = true
error_set_of SgDecErr = true

-- current, tail, next and held next pointers are multiples of 64
abbrev pub aligned : Pointers → Bool
aligned c = both (eqb (c.current % alignment) 0) (both (eqb (c.tail % alignment) 0) (both (eqb (c.next % alignment) 0) (eqb (c.heldnext % alignment) 0)))

-- while moving: moved is less than total, total at most 8,388,607, source and destination + moved below 2^32
abbrev pub transfer_fits : Transfer → Bool
transfer_fits t =
    both (ltb t.moved t.total)
    (both (leb t.total most_bytes)
    (both (ltb (t.source + t.moved) address_end) (ltb (t.destination + t.moved) address_end)))

-- fetch and update phases only in chain mode
abbrev pub phase_fits : Phase → Bool → Bool
phase_fits Idle sgmode = true
phase_fits Fetch sgmode = sgmode
phase_fits (Move t) sgmode = transfer_fits t
phase_fits (Update o) sgmode = sgmode

-- well formed
unfoldable pub well_formed_of : Engine → Bool
well_formed_of s =
    both (aligned s.pointers)
    (both (leb s.simple.btt most_bytes)
    (both (not (both (error_set_of s.status.fault) (busy_of s.phase))) (phase_fits s.phase s.control.sgmode)))

-- (IOC_Irq and its enable) or (Err_Irq and its enable)
abbrev pub interrupt_line_of : Engine → Bool
interrupt_line_of s = either (both s.status.ioc s.control.iocen) (both s.status.err s.control.erren)

-- a state with one part replaced
abbrev pub with_control : Engine → Control → Engine
with_control s x = record { settings = s.settings; control = x; status = s.status; pointers = s.pointers; simple = s.simple; phase = s.phase }

abbrev pub with_status : Engine → Status → Engine
with_status s x = record { settings = s.settings; control = s.control; status = x; pointers = s.pointers; simple = s.simple; phase = s.phase }

abbrev pub with_pointers : Engine → Pointers → Engine
with_pointers s x = record { settings = s.settings; control = s.control; status = s.status; pointers = x; simple = s.simple; phase = s.phase }

abbrev pub with_simple : Engine → Simple → Engine
with_simple s x = record { settings = s.settings; control = s.control; status = s.status; pointers = s.pointers; simple = x; phase = s.phase }

abbrev pub with_phase : Engine → Phase → Engine
with_phase s x = record { settings = s.settings; control = s.control; status = s.status; pointers = s.pointers; simple = s.simple; phase = x }

-- a state with one field replaced
abbrev pub with_fault : Engine → ErrorBit → Engine
with_fault s x = with_status s (record { fault = x; ioc = s.status.ioc; err = s.status.err })

abbrev pub with_ioc : Engine → Bool → Engine
with_ioc s x = with_status s (record { fault = s.status.fault; ioc = x; err = s.status.err })

abbrev pub with_err : Engine → Bool → Engine
with_err s x = with_status s (record { fault = s.status.fault; ioc = s.status.ioc; err = x })

abbrev pub with_current : Engine → ℕ → Engine
with_current s x = with_pointers s (record { current = x; tail = s.pointers.tail; next = s.pointers.next; heldnext = s.pointers.heldnext })

abbrev pub with_tail : Engine → ℕ → Engine
with_tail s x = with_pointers s (record { current = s.pointers.current; tail = x; next = s.pointers.next; heldnext = s.pointers.heldnext })

abbrev pub with_next : Engine → ℕ → Engine
with_next s x = with_pointers s (record { current = s.pointers.current; tail = s.pointers.tail; next = x; heldnext = s.pointers.heldnext })

abbrev pub with_heldnext : Engine → ℕ → Engine
with_heldnext s x = with_pointers s (record { current = s.pointers.current; tail = s.pointers.tail; next = s.pointers.next; heldnext = x })

abbrev pub with_sa : Engine → ℕ → Engine
with_sa s x = with_simple s (record { sa = x; da = s.simple.da; btt = s.simple.btt })

abbrev pub with_da : Engine → ℕ → Engine
with_da s x = with_simple s (record { sa = s.simple.sa; da = x; btt = s.simple.btt })

abbrev pub with_btt : Engine → ℕ → Engine
with_btt s x = with_simple s (record { sa = s.simple.sa; da = s.simple.da; btt = x })
