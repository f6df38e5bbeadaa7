-- RULES.md, "Descriptor and steps": one step does one of these: idle, fetch, move, update.
use Rattle.std.specs.Prelude.{ℕ, ◌+◌, ◌-◌, ◌*◌, ◌^◌, min, Bool, true, List, length, eqb, Option, Some, None as Nothing}
use Rattle.std.proofs.lemmas.List.Edits.{sets}
use Rattle.kit.specs.Choice.{when}
use Rattle.kit.specs.Word.{bytes_of}
use Rattle.kit.specs.declared.settings.Settings.{Settings}
use Rattle.cut.specs.Cut.{burst_bytes}
use Rattle.memory.specs.declared.window.Window.{Window}
use Rattle.memory.specs.declared.verdict.Verdict.{Verdict}
use Rattle.memory.specs.declared.verdict.Verdict.TheVariants.{Okay, Slave as SlaveError, Decode as DecodeError}
use Rattle.memory.specs.Verdict.{group_of}
use Rattle.sides.specs.Sides.{place_of, sides_answer, sides_moved}
use Rattle.places.specs.Places.{fault_of, address_of}
use Rattle.state.specs.declared.engine.Engine.{Engine}
use Rattle.state.specs.declared.engine.Transfer.{Transfer}
use Rattle.state.specs.declared.engine.ErrorBit.{ErrorBit}
use Rattle.state.specs.declared.engine.ErrorBit.TheVariants.{DmaIntErr, DmaSlvErr, DmaDecErr, SgIntErr, SgSlvErr, SgDecErr}
use Rattle.state.specs.declared.engine.Outcome.{Outcome}
use Rattle.state.specs.declared.engine.Outcome.TheVariants.{Complete, Internal, Slave, Decode}
use Rattle.state.specs.declared.engine.Phase.{Phase}
use Rattle.state.specs.declared.engine.Phase.TheVariants.{Idle, Fetch, Move, Update}
use Rattle.state.specs.declared.descriptor.Descriptor.{Descriptor}
use Rattle.state.specs.Bits.{error_bit_of}
use Rattle.state.specs.Descriptor.{descriptor_bytes, status_at, descriptor_at, start_of}
use Rattle.state.specs.State.{with_phase, with_fault, with_ioc, with_err, with_current, with_next, with_heldnext}
use Rattle.steps.specs.declared.event.Event.{Event}
use Rattle.steps.specs.declared.event.Event.TheVariants.{None, Fetch as Fetched, Move as Moved, Fault, Update as Updated, Halt}
use Rattle.steps.specs.declared.event.Advanced.{Advanced}

-- what a step leaves: its event, the state and the memory
pub record AfterAdvance : Type 0 where
  pub event : Event
  pub engine : Engine
  pub memory : List ℕ

abbrev pub advance_seen : Advanced → List ℕ → AfterAdvance
advance_seen r m = record { event = r.event; engine = r.engine; memory = m }

-- no step taken yet
abbrev pub begun : Engine → List ℕ → AfterAdvance
begun s m = record { event = None; engine = s; memory = m }

-- halt: Idle and Err_Irq set, current kept
abbrev pub stop_on_error_of : Engine → ErrorBit → Engine
stop_on_error_of s b = with_phase (with_err (with_fault s b) true) Idle

-- a fetch or update that ends without going on or writing
abbrev pub halt_of : Engine → ErrorBit → Advanced
halt_of s b = record { event = Halt s.pointers.current (error_bit_of b); engine = stop_on_error_of s b }

-- the bit of some bytes of a descriptor, by their verdict: decode error SGDecErr, slave error SGSlvErr
abbrev pub chain_error_of : Verdict → Option ErrorBit
chain_error_of Okay = Nothing
chain_error_of SlaveError = Some SgSlvErr
chain_error_of DecodeError = Some SgDecErr

-- ---- fetch

-- a count of 0, or a fixed side off the multiples of the width, goes to update with DMAIntErr; any other transfer moves
abbrev pub phase_after_fetch_of : Option Transfer → Phase
phase_after_fetch_of (Some t) = Move t
phase_after_fetch_of Nothing = Update Internal

-- a descriptor that memory gave; status bit 31 already set: SGIntErr
unfoldable pub accept_of : Engine → Descriptor → Advanced
accept_of s d =
    when d.stale (halt_of s SgIntErr)
    (record {
      event = Fetched s.pointers.current;
      engine = with_phase (with_heldnext s d.next) (phase_after_fetch_of (start_of s.settings.width s.control d.source d.destination d.count));
    })

-- fetch of the 32 bytes: decode error SGDecErr, slave error SGSlvErr
abbrev pub fetch_by : Engine → List ℕ → Verdict → Advanced
fetch_by s m Okay = accept_of s (descriptor_at m s.pointers.current)
fetch_by s m SlaveError = halt_of s SgSlvErr
fetch_by s m DecodeError = halt_of s SgDecErr

abbrev pub fetch_of : Engine → List ℕ → List Window → Advanced
fetch_of s m windows = fetch_by s m (group_of (length m) windows s.pointers.current descriptor_bytes)

-- ---- move

-- where the next burst of a transfer is read and written, on a side that increments
abbrev pub reads_at : Transfer → ℕ
reads_at t = t.source + t.moved

abbrev pub writes_at : Transfer → ℕ
writes_at t = t.destination + t.moved

-- where byte k of a transfer is read and written: CDMACR bit 4 fixes the source at its word, bit 5 the destination
abbrev pub read_place : Settings → Bool → Transfer → ℕ → ℕ
read_place x fixed t = place_of fixed x.width t.source

abbrev pub write_place : Settings → Bool → Transfer → ℕ → ℕ
write_place x fixed t = place_of fixed x.width t.destination

-- a fixed destination takes pieces of at most so many beats
abbrev pub most_fixed_beats : ℕ
most_fixed_beats = 16

abbrev pub piece_bytes : Settings → ℕ
piece_bytes x = x.width * min x.beats most_fixed_beats

-- the bytes of the next burst: the first of the cut of what remains; to a fixed destination a piece, the last one shorter
abbrev pub bytes_by : Settings → Bool → Transfer → ℕ
bytes_by x writes t =
    when writes (min (piece_bytes x) (t.total - t.moved)) (burst_bytes x.width x.beats (writes_at t) (t.total - t.moved))

-- what its event tells of its place, if memory takes it: the first byte written, or the start of a fixed destination
abbrev pub told_by : Bool → Transfer → ℕ
told_by writes t = when writes t.destination (writes_at t)

-- what its n source bytes and n destination bytes, those and no others, answer together
abbrev pub answer_by : Settings → Bool → Bool → Transfer → ℕ → List Window → ℕ → Verdict
answer_by x reads writes t size windows n =
    sides_answer size windows (read_place x reads t) (write_place x writes t) t.moved n

-- the memory after them: all source bytes are read before any is written
abbrev pub moved_by : Settings → Bool → Bool → Transfer → List ℕ → ℕ → List ℕ
moved_by x reads writes t m n = sides_moved m (read_place x reads t) (write_place x writes t) t.moved n

-- where it failed, if they answer with the error v: the lowest byte that gives v, of the source's if one of these does
abbrev pub fault_by : Settings → Bool → Bool → Transfer → ℕ → List Window → ℕ → Verdict → ℕ
fault_by x reads writes t size windows n v = address_of (fault_of size windows v (read_place x reads t) (write_place x writes t) t.moved n)

-- the same of an engine, by its settings and its key hole bits
abbrev pub next_bytes : Engine → Transfer → ℕ
next_bytes s = bytes_by s.settings s.control.keyholewrite

abbrev pub told_at : Engine → Transfer → ℕ
told_at s = told_by s.control.keyholewrite

abbrev pub burst_answer : Engine → Transfer → ℕ → List Window → ℕ → Verdict
burst_answer s = answer_by s.settings s.control.keyholeread s.control.keyholewrite

abbrev pub fault_at : Engine → Transfer → ℕ → List Window → ℕ → Verdict → ℕ
fault_at s = fault_by s.settings s.control.keyholeread s.control.keyholewrite

abbrev pub burst_moved : Engine → Transfer → List ℕ → ℕ → List ℕ
burst_moved s = moved_by s.settings s.control.keyholeread s.control.keyholewrite

-- after the last burst: chain mode goes to update, simple mode ends in that same step and sets IOC_Irq
abbrev pub finish_transfer_of : Engine → Engine
finish_transfer_of s = when s.control.sgmode (with_phase s (Update Complete)) (with_phase (with_ioc s true) Idle)

-- the state after `moved` bytes of the transfer
abbrev pub continue_or_finish_of : Engine → Transfer → ℕ → Engine
continue_or_finish_of s t moved =
    when (eqb moved t.total) (finish_transfer_of s)
    (with_phase s (Move (record { source = t.source; destination = t.destination; total = t.total; moved = moved })))

-- a move that writes
abbrev pub after_burst_of : Engine → Transfer → ℕ → ℕ → Advanced
after_burst_of s t start bytes = record {
  event = Moved (record { start = start; bytes = bytes });
  engine = continue_or_finish_of s t (t.moved + bytes);
}

-- a move that fails at a place: chain mode goes to update, simple mode sets its CDMASR bit and halts
abbrev pub after_fault_of : Engine → ℕ → Outcome → ErrorBit → Advanced
after_fault_of s place outcome b = record {
  event = Fault place (error_bit_of b);
  engine = when s.control.sgmode (with_phase s (Update outcome)) (stop_on_error_of s b);
}

-- move, by what its bytes answer
abbrev pub move_burst_by : Engine → Transfer → List ℕ → List Window → ℕ → Verdict → AfterAdvance
move_burst_by s t m windows n Okay = advance_seen (after_burst_of s t (told_at s t) n) (burst_moved s t m n)
move_burst_by s t m windows n SlaveError = advance_seen (after_fault_of s (fault_at s t (length m) windows n SlaveError) Slave DmaSlvErr) m
move_burst_by s t m windows n DecodeError = advance_seen (after_fault_of s (fault_at s t (length m) windows n DecodeError) Decode DmaDecErr) m

abbrev pub move_burst_of : Engine → Transfer → List ℕ → List Window → AfterAdvance
move_burst_of s t m windows = move_burst_by s t m windows (next_bytes s t) (burst_answer s t (length m) windows (next_bytes s t))

-- ---- update

-- where the status word of the current descriptor lies
abbrev pub status_place : Engine → ℕ
status_place s = s.pointers.current + status_at

-- the status word: complete, or for an error only bit 30 (decode), 29 (slave) or 28 (internal)
abbrev pub status_word_of : Outcome → ℕ
status_word_of Complete = 0x80000000
status_word_of Internal = 2 ^ 28
status_word_of Slave = 2 ^ 29
status_word_of Decode = 2 ^ 30

-- a good update sets IOC_Irq and next = held next; if current equals tail, idle, else current = next and fetch
abbrev pub complete_descriptor_of : Engine → Engine
complete_descriptor_of s =
    let held = s.pointers.heldnext in
    when (eqb s.pointers.current s.pointers.tail)
    (with_phase (with_next (with_ioc s true) held) Idle)
    (with_phase (with_current (with_next (with_ioc s true) held) held) Fetch)

-- a bad one sets the CDMASR bit and halts
abbrev pub retire_of : Engine → Outcome → Engine
retire_of s Complete = complete_descriptor_of s
retire_of s Internal = stop_on_error_of s DmaIntErr
retire_of s Slave = stop_on_error_of s DmaSlvErr
retire_of s Decode = stop_on_error_of s DmaDecErr

-- an update that writes its word, good or bad
abbrev pub after_update_of : Engine → Outcome → ℕ → Advanced
after_update_of s outcome word = record { event = Updated s.pointers.current word; engine = retire_of s outcome }

-- update, by what the status word answers
abbrev pub update_by : Engine → Outcome → List ℕ → Verdict → AfterAdvance
update_by s outcome m Okay = advance_seen (after_update_of s outcome (status_word_of outcome)) (sets m (status_place s) (bytes_of (status_word_of outcome)))
update_by s outcome m SlaveError = advance_seen (halt_of s SgSlvErr) m
update_by s outcome m DecodeError = advance_seen (halt_of s SgDecErr) m

abbrev pub update_of : Engine → Outcome → List ℕ → List Window → AfterAdvance
update_of s outcome m windows = update_by s outcome m (group_of (length m) windows (status_place s) 4)

-- ---- one step, by phase

abbrev pub advance_by : Engine → List ℕ → List Window → Phase → AfterAdvance
advance_by s m windows Idle = begun s m
advance_by s m windows Fetch = advance_seen (fetch_of s m windows) m
advance_by s m windows (Move t) = move_burst_of s t m windows
advance_by s m windows (Update outcome) = update_of s outcome m windows

unfoldable pub advance_of : Engine → List ℕ → List Window → AfterAdvance
advance_of s m windows = advance_by s m windows s.phase
