-- A chain of two descriptors, run as 3 + 4 steps and as 7.
use Rattle.std.specs.Prelude.{◌≡◌, true, false, List, [], ◌∷◌, ◌++◌, ℕ, replicate}
use Rattle.state.specs.declared.engine.Engine.{Engine}
use Rattle.state.specs.declared.engine.ErrorBit.TheVariants.{Clear}
use Rattle.state.specs.declared.engine.Outcome.TheVariants.{Complete}
use Rattle.state.specs.declared.engine.Phase.TheVariants.{Idle, Update}
use Rattle.registers.specs.Write.{write_of}
use Rattle.steps.specs.declared.event.Event.{Event}
use Rattle.steps.specs.declared.event.Event.TheVariants.{Fetch as Fetched, Move as Moved, Update as Updated}
use Rattle.steps.specs.Claims.{Bytes}
use Rattle.runs.specs.Run.{AfterRun, run_of}
use Rattle.claims.specs.Events.{events_of}
use Rattle.claims.specs.Joined.{runs_of}
use Rattle.claims.specs.Worked.{rising, engine, descriptor}

-- the descriptor at 0 moves 65 bytes from 100 to 200, the one at 64 moves 5 from 32 to 48
abbrev pub before : List ℕ
before = descriptor 64 100 200 65 0 ++ rising 32 1 ++ descriptor 128 32 48 5 0 ++ rising 176 33

-- both complete, and moved
abbrev pub afterwards : List ℕ
afterwards =
    descriptor 64 100 200 65 0x80000000 ++ (rising 16 1 ++ rising 5 1 ++ rising 11 22)
    ++ descriptor 128 32 48 5 0x80000000 ++ (rising 104 33 ++ rising 65 37 ++ rising 7 202)

-- the interrupt of an earlier transfer cleared, and started by its tail, 64
abbrev pub started : Engine
started = (write_of (write_of (engine true Idle) 0x04 0x1000).engine 0x10 64).engine

-- a sick window that no step touches
abbrev pub beside : List ℕ
beside = 265 ∷ 7 ∷ []

-- idle at the tail, with the interrupt of the updates
abbrev pub finished : Engine
finished = record {
  settings = record { width = 4; beats = 16 };
  control = record { sgmode = true; keyholeread = false; keyholewrite = false; iocen = true; erren = true };
  status = record { fault = Clear; ioc = true; err = false };
  pointers = record { current = 64; tail = 64; next = 128; heldnext = 128 };
  simple = record { sa = 3; da = 100; btt = 0 };
  phase = Idle;
}

-- three steps, and then four
abbrev pub three : AfterRun
three = run_of 3 started before beside

abbrev pub four : AfterRun
four = run_of 4 three.engine three.memory beside

-- or seven
abbrev pub seven : AfterRun
seven = run_of 7 started before beside

-- the first run stops between the last burst of the first descriptor and its update
abbrev pub early : List Event
early = Fetched 0 ∷ Moved (record { start = 200; bytes = 64 }) ∷ Moved (record { start = 264; bytes = 1 }) ∷ []

abbrev pub late : List Event
late = Updated 0 0x80000000 ∷ Fetched 64 ∷ Moved (record { start = 48; bytes = 5 }) ∷ Updated 64 0x80000000 ∷ []

pub record RunsWorked : Type 0 where
  pub premise : Bytes before
  pub answers : (three.answer ≡ 0) × (four.answer ≡ 0) × (seven.answer ≡ 0)
  pub steps : (three.steps ≡ 3) × (four.steps ≡ 4) × (seven.steps ≡ 7)
  pub midway : (three.engine.phase ≡ Update Complete) × (three.engine.status.ioc ≡ false)
  pub engine : (four.engine ≡ finished) × (seven.engine ≡ finished)
  pub memory : (four.memory ≡ afterwards) × (seven.memory ≡ afterwards)
  pub first_events : events_of 3 started before beside ≡ early
  pub second_events : events_of 4 three.engine three.memory beside ≡ late
  pub whole_events : events_of 7 started before beside ≡ early ++ late
  -- the same as several runs, with one of no steps between and one past the end
  pub several : runs_of (3 ∷ 0 ∷ 4 ∷ 9 ∷ []) started before beside
      ≡ record { answers = replicate 4 0; events = early ++ late; steps = 7; engine = finished; memory = afterwards }
  -- with seventeen windows all of them are refused, and nothing has changed
  pub refused : runs_of (3 ∷ 4 ∷ []) started before (replicate 34 0)
      ≡ record { answers = replicate 2 6; events = []; steps = 0; engine = started; memory = before }
