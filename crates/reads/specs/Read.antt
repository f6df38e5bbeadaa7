-- RULES.md, "Registers": what a read gives.
use Rattle.std.specs.Prelude.{ℕ, ◌+◌, ◌^◌, Bool, not, List, [], ◌∷◌, eqb, Result, Ok, Err}
use Rattle.kit.specs.Choice.{when}
use Rattle.kit.specs.Answer.{number_of}
use Rattle.kit.specs.Settings.{among, legal_of}
use Rattle.kit.specs.declared.answer.Refusal.{Refusal}
use Rattle.state.specs.declared.engine.Control.{Control}
use Rattle.state.specs.declared.engine.Status.{Status}
use Rattle.state.specs.declared.engine.Phase.{Phase}
use Rattle.state.specs.declared.engine.Engine.{Engine}
use Rattle.state.specs.State.{busy_of, error_set_of, well_formed_of}
use Rattle.state.specs.Bits.{tail_pntr_en, sg_mode, key_hole_read, key_hole_write, ioc_irq_en, err_irq_en, irq_threshold, idle, sg_incld, ioc_irq, err_irq, irq_threshold_sts, error_bit_of}

-- a bit's value where it is set
abbrev pub bit_if : Bool → ℕ → ℕ
bit_if set value = when set value 0

-- CDMACR: bit 1 and bits 23..16 read 1, each as a field; bits 3, 4, 5, 12 and 14 are kept
abbrev pub control_of : Control → ℕ
control_of c =
    2 ^ irq_threshold + 2 ^ tail_pntr_en + bit_if c.sgmode (2 ^ sg_mode) + bit_if c.keyholeread (2 ^ key_hole_read)
    + bit_if c.keyholewrite (2 ^ key_hole_write)
    + bit_if c.iocen (2 ^ ioc_irq_en)
    + bit_if c.erren (2 ^ err_irq_en)

-- CDMASR: bit 3 and bits 23..16 read 1; bit 1 Idle, the error bits, 12 IOC_Irq, 14 Err_Irq
abbrev pub status_of : Status → Phase → ℕ
status_of t p =
    2 ^ irq_threshold_sts + 2 ^ sg_incld + bit_if (not (busy_of p)) (2 ^ idle) + bit_if (error_set_of t.fault) (2 ^ error_bit_of t.fault)
    + bit_if t.ioc (2 ^ ioc_irq)
    + bit_if t.err (2 ^ err_irq)

-- an answer's number, and the value beside it
pub record Value : Type 0 where
  pub answer : ℕ
  pub value : ℕ

abbrev pub gives : ℕ → Value
gives v = record { answer = 0; value = v }

abbrev pub no_value : ℕ → Value
no_value n = record { answer = n; value = 0 }

-- the upper halves
abbrev pub upper_halves : List ℕ
upper_halves = 0x0C ∷ 0x14 ∷ 0x1C ∷ 0x24 ∷ []

-- each register's value; upper halves read 0; any other offset: 3
unfoldable pub register_of : Engine → ℕ → Value
register_of s offset =
    when (eqb offset 0x00) (gives (control_of s.control))
    (when (eqb offset 0x04) (gives (status_of s.status s.phase))
    (when (eqb offset 0x08) (gives s.pointers.current)
    (when (eqb offset 0x10) (gives s.pointers.tail)
    (when (eqb offset 0x18) (gives s.simple.sa)
    (when (eqb offset 0x20) (gives s.simple.da)
    (when (eqb offset 0x28) (gives s.simple.btt)
    (when (among offset upper_halves) (gives 0) (no_value 3))))))))

-- answers 1, 9 and 3 in their order, else the register's value
abbrev pub read_of : Engine → ℕ → Value
read_of s offset =
    when (legal_of s.settings)
    (when (well_formed_of s) (register_of s offset) (no_value 9))
    (no_value 1)

-- the code's result, as a caller sees it
abbrev pub read_seen : Result ℕ Refusal → Value
read_seen (Ok value) = gives value
read_seen (Err refusal) = no_value (number_of refusal)
