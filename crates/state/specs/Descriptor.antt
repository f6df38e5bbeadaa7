-- RULES.md, "Descriptor and steps": a descriptor's layout, and where a transfer starts.
use Rattle.std.specs.Prelude.{ℕ, ◌+◌, ◌%◌, ◌^◌, Bool, not, List, Option, Some, None, eqb}
use Rattle.kit.specs.Choice.{when, both, either}
use Rattle.kit.specs.Word.{word_at}
use Rattle.state.specs.declared.descriptor.Descriptor.{Descriptor}
use Rattle.state.specs.declared.engine.Control.{Control}
use Rattle.state.specs.declared.engine.Transfer.{Transfer}
use Rattle.state.specs.Bits.{bit, pointer}

-- 32 bytes, at a pointer
abbrev pub descriptor_bytes : ℕ
descriptor_bytes = 32

-- little-endian words: 00 next, 08 source, 10 destination, 18 control, 1C status
abbrev pub next_at : ℕ
next_at = 0x00

abbrev pub source_at : ℕ
source_at = 0x08

abbrev pub destination_at : ℕ
destination_at = 0x10

abbrev pub control_at : ℕ
control_at = 0x18

abbrev pub status_at : ℕ
status_at = 0x1C

-- the status bit of a descriptor that is done
abbrev pub complete : ℕ
complete = 31

-- BTT: bits 22..0
abbrev pub count_of : ℕ → ℕ
count_of v = v % 2 ^ 23

-- the descriptor at `at`; upper halves and the other control bits are ignored
abbrev pub descriptor_at : List ℕ → ℕ → Descriptor
descriptor_at m at = record {
  next = pointer (word_at m (at + next_at));
  source = word_at m (at + source_at);
  destination = word_at m (at + destination_at);
  count = count_of (word_at m (at + control_at));
  stale = bit complete (word_at m (at + status_at));
}

-- a side that is fixed (key hole) needs its start and the count to be multiples of the width; one that increments may lie anywhere
abbrev pub suits : Bool → ℕ → ℕ → ℕ → Bool
suits fixed w start count = either (not fixed) (both (eqb (start % w) 0) (eqb (count % w) 0))

-- where a transfer starts, at its fetch or its BTT write: a count of 0 is an internal error, None, and so is, right after
-- it, a fixed side off the multiples; any other transfer moves
abbrev pub start_of : ℕ → Control → ℕ → ℕ → ℕ → Option Transfer
start_of w c source destination count =
    when (eqb count 0) None
    (when (both (suits c.keyholeread w source count) (suits c.keyholewrite w destination count))
    (Some (record { source = source; destination = destination; total = count; moved = 0 }))
    None)
