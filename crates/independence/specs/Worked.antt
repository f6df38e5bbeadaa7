-- Pairs of engines on one memory: two whose bytes do not meet, two that meet at a source, two that meet at a status word, two of
-- which one only judges what the other writes; and the bytes of a step with a fixed side.
use Rattle.std.specs.Prelude.{◌≡◌, true, false, List, [], ◌∷◌, ◌++◌, ℕ, zero, suc, get_or, replicate}
use Rattle.kit.specs.Word.{word_at}
use Rattle.memory.specs.declared.window.Window.{Window}
use Rattle.state.specs.declared.engine.Engine.{Engine}
use Rattle.state.specs.declared.engine.Status.{Status}
use Rattle.state.specs.declared.engine.ErrorBit.TheVariants.{Clear, DmaSlvErr}
use Rattle.state.specs.declared.engine.Outcome.TheVariants.{Complete}
use Rattle.state.specs.declared.engine.Phase.TheVariants.{Idle, Move, Update}
use Rattle.registers.specs.Write.{write_of}
use Rattle.steps.specs.declared.event.Event.TheVariants.{Fetch as Fetched, Move as Moved, Fault, Update as Updated}
use Rattle.claims.specs.Transfers.{step as lends, Own, Copied}
use Rattle.claims.specs.Worked.{rising, engine, descriptor}
use Rattle.claims.specs.WorkedHoles.{fixed_engine}
use Rattle.independence.specs.Footprint.{bytes_from, reads_of, writes_of}
use Rattle.independence.specs.Independence.{Act, step, write, read, event, answer, value, Alone, alone_of, Number, one, two, Pair, together_of, Interleaves, apart}

-- the engine of the other worked cases, started by its tail on the chain at `current`; IOC_Irq is still set from before
abbrev pub started : ℕ → ℕ → Engine
started current tail = (write_of (write_of (engine true Idle) 0x08 current).engine 0x10 tail).engine

-- IOC_Irq alone, and with a slave error
abbrev pub complete : Status
complete = record { fault = Clear; ioc = true; err = false }

abbrev pub faulty : Status
faulty = record { fault = DmaSlvErr; ioc = true; err = true }

-- the same idle at its tail
abbrev pub ended : Status → ℕ → ℕ → ℕ → Engine
ended status tail next held = record {
  settings = record { width = 4; beats = 16 };
  control = record { sgmode = true; keyholeread = false; keyholewrite = false; iocen = true; erren = true };
  status = status;
  pointers = record { current = tail; tail = tail; next = next; heldnext = held };
  simple = record { sa = 3; da = 100; btt = 0 };
  phase = Idle;
}

-- the steps of a descriptor that is moved in one burst
abbrev pub three : List Act
three = step ∷ step ∷ step ∷ []

-- ---- (a) bytes that do not meet

-- engine one: the descriptor at 0 moves 8 bytes from 32 to 48, the one at 64 moves 5 from 96 to 112. Engine two: the one at
-- 128 moves 7 from 160 to 180
abbrev pub before : List ℕ
before =
    descriptor 64 32 48 8 0 ++ rising 32 1
    ++ descriptor 128 96 112 5 0 ++ rising 32 33
    ++ descriptor 192 160 180 7 0 ++ rising 80 65

abbrev pub afterwards : List ℕ
afterwards =
    descriptor 64 32 48 8 0x80000000 ++ (rising 16 1 ++ rising 8 1 ++ rising 8 25)
    ++ descriptor 128 96 112 5 0x80000000 ++ (rising 16 33 ++ rising 5 33 ++ rising 11 54)
    ++ descriptor 192 160 180 7 0x80000000 ++ (rising 20 65 ++ rising 7 65 ++ rising 53 92)

-- a sick window that no step touches
abbrev pub beside : List Window
beside = record { start = 230; length = 5 } ∷ []

abbrev pub first_acts : List Act
first_acts = three ++ three

-- before its update engine two's interrupt is cleared, and CDMASR read
abbrev pub second_acts : List Act
second_acts = step ∷ step ∷ write 0x04 0x1000 ∷ read 0x04 ∷ step ∷ []

abbrev pub alone : Alone
alone = alone_of first_acts (started 0 64) before beside

abbrev pub alone' : Alone
alone' = alone_of second_acts (started 128 128) before beside

-- both in this order
abbrev pub both : List Number → Pair
both order = together_of order first_acts second_acts (started 0 64) (started 128 128) before beside

abbrev pub alternating : ℕ → List Number
alternating zero = []
alternating (suc n) = one ∷ two ∷ alternating n

-- what each has alone, and the one memory
abbrev pub outcome : Pair
outcome = record {
  first = record {
    told = event (Fetched 0) ∷ event (Moved (record { start = 48; bytes = 8 })) ∷ event (Updated 0 0x80000000)
        ∷ event (Fetched 64) ∷ event (Moved (record { start = 112; bytes = 5 })) ∷ event (Updated 64 0x80000000) ∷ [];
    engine = ended complete 64 128 128;
  };
  second = record {
    told = event (Fetched 128) ∷ event (Moved (record { start = 180; bytes = 7 })) ∷ answer 0 ∷ value (record { answer = 0; value = 0x10008 })
        ∷ event (Updated 128 0x80000000) ∷ [];
    engine = ended complete 128 192 192;
  };
  memory = afterwards;
}

pub record SeparateWorked : Type 0 where
  pub premise : apart (started 0 64) (started 128 128) first_acts second_acts before beside ≡ true
  pub reads : (alone.reads ≡ bytes_from 0 32 ++ bytes_from 32 8 ++ bytes_from 64 32 ++ bytes_from 96 5) × (alone'.reads ≡ bytes_from 128 32 ++ bytes_from 160 7)
  pub writes : (alone.writes ≡ bytes_from 48 8 ++ bytes_from 28 4 ++ bytes_from 112 5 ++ bytes_from 92 4) × (alone'.writes ≡ bytes_from 180 7 ++ bytes_from 156 4)
  pub courses : (alone.course ≡ outcome.first) × (alone'.course ≡ outcome.second)
  -- first all of the one, then all of the other; the reverse; in turn
  pub one_first : both (replicate 6 one ++ replicate 5 two) ≡ outcome
  pub two_first : both (replicate 5 two ++ replicate 6 one) ≡ outcome
  pub in_turn : both (alternating 5 ++ one ∷ []) ≡ outcome
  pub interleaves : Interleaves (alternating 5 ++ one ∷ []) 6 5

-- ---- (b) bytes that meet at a source

-- engine one: the descriptor at 0 moves 8 bytes from 32 to 48. Engine two: the one at 64 moves 4 from 96 to 36
abbrev pub source_memory : List ℕ
source_memory = descriptor 64 32 48 8 0 ++ rising 32 1 ++ descriptor 128 96 36 4 0 ++ rising 32 33

abbrev pub on_source : List Number → Pair
on_source order = together_of order three three (started 0 0) (started 64 64) source_memory []

-- engine two does all of its steps between engine one's fetch and its move
abbrev pub between : List Number
between = one ∷ replicate 3 two ++ replicate 2 one

-- engine one's steps then, with the memory lent to each
abbrev pub lent : ℕ → List ℕ
lent turns = (on_source (one ∷ replicate 3 two ++ replicate turns one)).memory

pub record SourceWorked : Type 0 where
  pub premise : apart (started 0 0) (started 64 64) three three source_memory [] ≡ false
  -- byte 36 of the source goes to 52: as it was, or as engine two left it
  pub one_first : get_or (on_source (replicate 3 one ++ replicate 3 two)).memory 52 0 ≡ 5
  pub two_between : get_or (on_source between).memory 52 0 ≡ 33
  -- in the second order engine one's transfer ends complete, and so its status word says
  pub completes : (on_source between).first ≡ record {
    told = event (Fetched 0) ∷ event (Moved (record { start = 48; bytes = 8 })) ∷ event (Updated 0 0x80000000) ∷ [];
    engine = ended complete 0 64 64;
  }
  pub status : word_at (on_source between).memory 28 ≡ 0x80000000
  -- but it is no copy of the source as it was at the start: the copy clause of demand 3 asks that no other writes between its steps
  pub uncopied : Copied (started 0 0) (record { source = 32; destination = 48; total = 8; moved = 0 }) source_memory (on_source between).memory → ⊥
  pub barred : Own source_memory (started 0 0) (lends source_memory [] ∷ lends (lent 0) [] ∷ lends (lent 1) [] ∷ []) → ⊥

-- ---- (c) bytes that meet at a status word

-- engine one has its update left, of the descriptor at 0. Engine two: the one at 64 moves 4 bytes from 96 to 28
abbrev pub status_memory : List ℕ
status_memory = descriptor 64 32 48 8 0 ++ rising 32 1 ++ descriptor 128 96 28 4 0 ++ rising 32 33

abbrev pub updating : Engine
updating = engine true (Update Complete)

abbrev pub on_status : List Number → Pair
on_status order = together_of order (step ∷ []) three updating (started 64 64) status_memory []

pub record StatusWorked : Type 0 where
  pub premise : apart updating (started 64 64) (step ∷ []) three status_memory [] ≡ false
  -- they meet nowhere else
  pub reads : (alone_of (step ∷ []) updating status_memory []).reads ≡ []
  pub writes : ((alone_of (step ∷ []) updating status_memory []).writes ≡ bytes_from 28 4) × ((alone_of three (started 64 64) status_memory []).writes ≡ bytes_from 28 4 ++ bytes_from 92 4)
  -- the later one stays
  pub one_first : word_at (on_status (one ∷ replicate 3 two)).memory 28 ≡ 0x24232221
  pub two_first : word_at (on_status (replicate 3 two ++ one ∷ [])).memory 28 ≡ 0x80000000

-- ---- (d) bytes that one only judges

-- engine one: the descriptor at 0 is to move 8 bytes from 32 to 100, of which the one at 104 is sick. Engine two: the one at
-- 64 moves 4 from 112 to 100
abbrev pub judged_memory : List ℕ
judged_memory = descriptor 64 32 100 8 0 ++ rising 32 1 ++ descriptor 128 112 100 4 0 ++ rising 32 33

abbrev pub amidst : List Window
amidst = record { start = 104; length = 1 } ∷ []

abbrev pub on_judged : List Number → Pair
on_judged order = together_of order three three (started 0 0) (started 64 64) judged_memory amidst

abbrev pub judged_outcome : Pair
judged_outcome = record {
  first = record {
    told = event (Fetched 0) ∷ event (Fault 104 5) ∷ event (Updated 0 0x20000000) ∷ [];
    engine = ended faulty 0 0 64;
  };
  second = record {
    told = event (Fetched 64) ∷ event (Moved (record { start = 100; bytes = 4 })) ∷ event (Updated 64 0x80000000) ∷ [];
    engine = ended complete 64 128 128;
  };
  memory = descriptor 64 32 100 8 0x20000000 ++ rising 32 1 ++ descriptor 128 112 100 4 0x80000000 ++ (rising 4 33 ++ rising 4 49 ++ rising 24 41);
}

pub record JudgedWorked : Type 0 where
  pub premise : apart (started 0 0) (started 64 64) three three judged_memory amidst ≡ true
  pub reads : (alone_of three (started 0 0) judged_memory amidst).reads ≡ bytes_from 0 32
  pub writes : (alone_of three (started 0 0) judged_memory amidst).writes ≡ bytes_from 28 4
  pub two_first : on_judged (replicate 3 two ++ replicate 3 one) ≡ judged_outcome
  pub in_turn : on_judged (alternating 3) ≡ judged_outcome

-- ---- (e) a fixed side

-- width 4: from the word at 8, 5 of 12 bytes moved; and to the word at 32, none of 8 moved
abbrev pub draining : Engine
draining = fixed_engine true (Move (record { source = 8; destination = 33; total = 12; moved = 5 })) true false 0 0

abbrev pub pushing : Engine
pushing = fixed_engine true (Move (record { source = 9; destination = 32; total = 8; moved = 0 })) false true 0 0

pub record FixedWorked : Type 0 where
  pub drains : (reads_of draining 64 [] ≡ 9 ∷ 10 ∷ 11 ∷ 8 ∷ 9 ∷ 10 ∷ 11 ∷ []) × (writes_of draining 64 [] ≡ bytes_from 38 7)
  pub pushes : (reads_of pushing 64 [] ≡ bytes_from 9 8) × (writes_of pushing 64 [] ≡ 32 ∷ 33 ∷ 34 ∷ 35 ∷ 32 ∷ 33 ∷ 34 ∷ 35 ∷ [])
