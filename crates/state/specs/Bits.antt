-- RULES.md, "Registers": pointers, and the bits of CDMACR and CDMASR by their numbers, as in PG034.
use Rattle.std.specs.Prelude.{ℕ, ◌*◌, ◌/◌, ◌%◌, ◌^◌, Bool, eqb}
use Rattle.state.specs.declared.engine.ErrorBit.{ErrorBit}
use Rattle.state.specs.declared.engine.ErrorBit.TheVariants.{Clear, DmaIntErr, DmaSlvErr, DmaDecErr, SgIntErr, SgSlvErr, SgDecErr}

-- bit n of a value
abbrev pub bit : ℕ → ℕ → Bool
bit n v = eqb (v / 2 ^ n % 2) 1

-- a pointer is a multiple of 64: low six bits dropped
abbrev pub alignment : ℕ
alignment = 64

abbrev pub pointer : ℕ → ℕ
pointer v = v / alignment * alignment

-- CDMACR: bit 1 and the field in bits 23..16 always read 1; bit 2 resets; bits 3, 4, 5, 12 and 14 are kept
abbrev pub tail_pntr_en : ℕ
tail_pntr_en = 1

abbrev pub reset : ℕ
reset = 2

abbrev pub sg_mode : ℕ
sg_mode = 3

abbrev pub key_hole_read : ℕ
key_hole_read = 4

abbrev pub key_hole_write : ℕ
key_hole_write = 5

abbrev pub ioc_irq_en : ℕ
ioc_irq_en = 12

abbrev pub err_irq_en : ℕ
err_irq_en = 14

abbrev pub irq_threshold : ℕ
irq_threshold = 16

-- CDMASR: bit 3 and the field in bits 23..16 always read 1
abbrev pub idle : ℕ
idle = 1

abbrev pub sg_incld : ℕ
sg_incld = 3

abbrev pub ioc_irq : ℕ
ioc_irq = 12

abbrev pub err_irq : ℕ
err_irq = 14

abbrev pub irq_threshold_sts : ℕ
irq_threshold_sts = 16

-- CDMASR's error bits
abbrev pub error_bit_of : ErrorBit → ℕ
error_bit_of Clear = 0
error_bit_of DmaIntErr = 4
error_bit_of DmaSlvErr = 5
error_bit_of DmaDecErr = 6
error_bit_of SgIntErr = 8
error_bit_of SgSlvErr = 9
error_bit_of SgDecErr = 10
