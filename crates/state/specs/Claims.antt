-- What is proved of the state: proofs/Claims.antt.
use Rattle.std.specs.Prelude.{◌≡◌, ℕ, ◌+◌, ◌%◌, ◌≤◌, ◌<◌, true, false, Some}
use Rattle.kit.specs.Limits.{most_bytes, address_end}
use Rattle.kit.specs.declared.settings.Settings.{Settings}
use Rattle.state.specs.declared.engine.Control.{Control}
use Rattle.state.specs.declared.engine.Transfer.{Transfer}
use Rattle.state.specs.declared.engine.Engine.{Engine}
use Rattle.state.specs.Bits.{alignment}
use Rattle.state.specs.Descriptor.{start_of}
use Rattle.state.specs.State.{fresh_of, busy_of, error_set_of, transfer_fits, phase_fits, well_formed_of}

-- a transfer in its midst, as named facts
pub record TransferFits (t : Transfer) : Type 0 where
  pub moved-less : t.moved < t.total
  pub total-small : t.total ≤ most_bytes
  pub source-inside : t.source + t.moved < address_end
  pub destination-inside : t.destination + t.moved < address_end

-- a well-formed state, as named facts
pub record WellFormed (s : Engine) : Type 0 where
  pub current-aligned : s.pointers.current % alignment ≡ 0
  pub tail-aligned : s.pointers.tail % alignment ≡ 0
  pub next-aligned : s.pointers.next % alignment ≡ 0
  pub held-aligned : s.pointers.heldnext % alignment ≡ 0
  pub count_small : s.simple.btt ≤ most_bytes
  pub error-idle : error_set_of s.status.fault ≡ true → busy_of s.phase ≡ false
  pub phase-fits : phase_fits s.phase s.control.sgmode ≡ true

-- what holds of a transfer that starts
pub record Suited (w : ℕ) (c : Control) (source destination count : ℕ) : Type 0 where
  pub some : 0 < count
  pub read : c.keyholeread ≡ true → (source % w ≡ 0) × (count % w ≡ 0)
  pub write : c.keyholewrite ≡ true → (destination % w ≡ 0) × (count % w ≡ 0)

pub record Claims : Type 0 where
  -- the tests say what the facts say
  pub transfer-fits : (t : Transfer) → transfer_fits t ≡ true → TransferFits t
  pub transfer-fits-test : (t : Transfer) → TransferFits t → transfer_fits t ≡ true
  pub well-formed : (s : Engine) → well_formed_of s ≡ true → WellFormed s
  pub well-formed-test : (s : Engine) → WellFormed s → well_formed_of s ≡ true
  -- a fresh state is well formed, and a transfer of 32-bit addresses and 23-bit count fits at its start
  pub fresh-well-formed : (x : Settings) → well_formed_of (fresh_of x) ≡ true
  pub start_fits : (w : ℕ) (c : Control) (source destination count : ℕ) (t : Transfer) → start_of w c source destination count ≡ Some t → source < address_end
      → destination < address_end → count ≤ most_bytes → transfer_fits t ≡ true
  -- a transfer that moves has bytes, and the start and the count of a fixed side are multiples of the width
  pub start-suits : (w : ℕ) (c : Control) (source destination count : ℕ) (t : Transfer) → start_of w c source destination count ≡ Some t
      → Suited w c source destination count
  -- and any such transfer moves, from its first byte on
  pub suited-starts : (w : ℕ) (c : Control) (source destination count : ℕ) → Suited w c source destination count
      → start_of w c source destination count ≡ Some (record { source = source; destination = destination; total = count; moved = 0 })
