-- RULES.md, "Trace and listing": what each record does and prints.
use Rattle.std.specs.Prelude.{ℕ, ◌+◌, ◌*◌, ◌≡◌, Bool, true, false, List, [], length, take, drop, set, eqb, leb, ltb}
use Rattle.std.proofs.lemmas.List.Edits.{sets}
use Rattle.kit.specs.Choice.{when}
use Rattle.kit.specs.declared.answer.Refusal.TheVariants as answers
use Rattle.kit.specs.Answer.{number_of}
use Rattle.kit.specs.Limits.{most_windows}
use Rattle.kit.specs.Settings.{legal_settings}
use Rattle.state.specs.declared.engine.Engine.{Engine}
use Rattle.state.specs.State.{fresh_of}
use Rattle.registers.specs.Write as registers-written
use Rattle.reads.specs.Read as registers-read
use Rattle.monitor.specs.declared.clock.Clock.{Clock}
use Rattle.monitor.specs.Monitor as bus
use Rattle.listing.specs.declared.line.Line.{Line}
use Rattle.listing.specs.Line.{line_of}
use Rattle.listing.specs.declared.word.Word.TheVariants.{Set, Memory, Window, Write, Read, NoRead, Bus, Stop, Bad}
use Rattle.session.specs.declared.chosen.Chosen.{Chosen}
use Rattle.session.specs.declared.chosen.Chosen.TheVariants.{Only}
use Rattle.session.specs.declared.Mode.{Mode}
use Rattle.session.specs.declared.Mode.TheVariants.{Start, Records, Steps, Over}
use Rattle.session.specs.declared.Session.{Session}
use Rattle.session.specs.declared.Effect.{Effect}
use Rattle.session.specs.Chosen.{chosen_at}

-- without CF one engine, W=4 and these beats; no windows, a fresh engine and monitor; nothing is read yet
abbrev pub start_with : ℕ → Session
start_with beats = record {
  engine = fresh_of (record { width = 4; beats = beats });
  monitor = bus.fresh_of;
  sequence = 0;
  windows = 0;
  chosen = Only;
  mode = Start;
}

-- without CF W=4, L=64
abbrev pub start_of : Session
start_of = start_with 64

-- a session with parts replaced
abbrev pub with_engine : Session → ℕ → Engine → Session
with_engine s sequence e =
    record { engine = e; monitor = s.monitor; sequence = sequence; windows = s.windows; chosen = s.chosen; mode = s.mode }

abbrev pub with_sequence : Session → ℕ → Session
with_sequence s sequence = with_engine s sequence s.engine

abbrev pub with_mode : Session → Mode → Session
with_mode s m =
    record { engine = s.engine; monitor = s.monitor; sequence = s.sequence; windows = s.windows; chosen = s.chosen; mode = m }

abbrev pub with_chosen : Session → Chosen → Session
with_chosen s c =
    record { engine = s.engine; monitor = s.monitor; sequence = s.sequence; windows = s.windows; chosen = c; mode = s.mode }

-- what the program lends to a replay: memory, windows, and the engine that is not the chosen one (of one engine: none, and
-- this one is never touched)
pub record Lent : Type 0 where
  pub memory : List ℕ
  pub windows : List ℕ
  pub other : Engine

abbrev pub lend : List ℕ → List ℕ → Engine → Lent
lend m w o = record { memory = m; windows = w; other = o }

-- what a record or a step leaves
pub record After : Type 0 where
  pub effect : Effect
  pub lent : Lent

abbrev pub after : Effect → Lent → After
after e lent = record { effect = e; lent = lent }

-- of what is lent, only the memory, or only the windows, may change
abbrev pub OnMemory : (Lent → After) → List ℕ → Effect → List ℕ → Type 0
OnMemory leaves m r m' = (w : List ℕ) (o : Engine) → after r (lend m' w o) ≡ leaves (lend m w o)

abbrev pub OnWindows : (Lent → After) → List ℕ → Effect → List ℕ → Type 0
OnWindows leaves w r w' = (m : List ℕ) (o : Engine) → after r (lend m w' o) ≡ leaves (lend m w o)

-- any other refusal prints last good sequence, `bad`, answer, the mark's position, and ends
abbrev pub bad_line_of : ℕ → ℕ → ℕ → Line
bad_line_of sequence answer position = record { sequence = sequence; word = Bad; first = answer; second = position }

abbrev pub bad_of : Session → ℕ → ℕ → Effect
bad_of s answer position = record { session = with_mode s Over; line = bad_line_of s.sequence answer position }

-- set W L
abbrev pub settings_line_of : ℕ → ℕ → ℕ → Line
settings_line_of sequence width beats = record { sequence = sequence; word = Set; first = width; second = beats }

-- a trace that does not start with CF or C2: the settings that hold are told before its first record is judged
abbrev pub opening_of : Session → Bool → List ℕ
opening_of s settings = when settings [] (line_of (settings_line_of s.sequence s.engine.settings.width s.engine.settings.beats))

-- CF, and C2 for two engines: set W L. Nothing was asked of either engine yet, and both have these settings
abbrev pub settings_of : Session → ℕ → Bool → ℕ → ℕ → ℕ → Effect
settings_of s sequence two width beats position =
    when (legal_settings width beats)
    (record {
      session = with_chosen (with_engine s sequence (fresh_of (record { width = width; beats = beats }))) (chosen_at two);
      line = settings_line_of sequence width beats;
    })
    (bad_of s (number_of answers.Settings) position)

-- MM: memory address length; bytes past the program's memory are refused
abbrev pub memory_of : Session → ℕ → ℕ → ℕ → ℕ → List ℕ → ℕ → Lent → After
memory_of s sequence address count position input from lent =
    when (ltb (length lent.memory) (address + count)) (after (bad_of s (number_of answers.MemoryEnd) position) lent)
    (after
    (record { session = with_sequence s sequence; line = record { sequence = sequence; word = Memory; first = address; second = count } })
    (lend (sets lent.memory address (take count (drop from input))) lent.windows lent.other))

-- SW: window start length; a seventeenth is refused
abbrev pub window_of : Session → ℕ → ℕ → ℕ → ℕ → Lent → After
window_of s sequence start count position lent =
    when (leb most_windows s.windows) (after (bad_of s (number_of answers.WindowCount) position) lent)
    (after
    (record {
      session = record { engine = s.engine; monitor = s.monitor; sequence = sequence; windows = s.windows + 1; chosen = s.chosen; mode = s.mode };
      line = record { sequence = sequence; word = Window; first = start; second = count };
    })
    (lend lent.memory (set (set lent.windows (2 * s.windows) start) (2 * s.windows + 1) count) lent.other))

-- WR: write offset answer
abbrev pub write_line_of : ℕ → ℕ → ℕ → Line
write_line_of sequence offset answer = record { sequence = sequence; word = Write; first = offset; second = answer }

abbrev pub write_of : Session → ℕ → ℕ → ℕ → Effect
write_of s sequence offset value =
    let w = registers-written.write_of s.engine offset value in
    record {
      session = with_engine s sequence w.engine;
      line = write_line_of sequence offset w.answer;
    }

-- RD: read offset value, or noread offset answer
abbrev pub read_of : Session → ℕ → ℕ → Effect
read_of s sequence offset =
    let v = registers-read.read_of s.engine offset in
    record {
      session = with_sequence s sequence;
      line = when (eqb v.answer 0) (record { sequence = sequence; word = Read; first = offset; second = v.value })
          (record { sequence = sequence; word = NoRead; first = offset; second = v.answer });
    }

-- AR: bus count lowest-flag
abbrev pub clock_line_of : ℕ → ℕ → ℕ → Line
clock_line_of sequence count lowest = record { sequence = sequence; word = Bus; first = count; second = lowest }

-- bits other than 0, 1 and 2 are refused
abbrev pub clock_of : Session → ℕ → ℕ → Clock → ℕ → Effect
clock_of s sequence bits clock position =
    let c = bus.bus_clock_of s.monitor s.engine.settings.width s.engine.settings.beats clock in
    when (ltb 7 bits) (bad_of s (number_of answers.Clock) position)
    (when (eqb c.number 0)
    (record {
      session = record { engine = s.engine; monitor = c.monitor; sequence = sequence; windows = s.windows; chosen = s.chosen; mode = s.mode };
      line = clock_line_of sequence c.count (bus.lowest_of c.monitor);
    })
    (bad_of s c.number position))

-- ST: its steps are to come, and with them its lines: the one here is not printed
abbrev pub steps_of : Session → ℕ → ℕ → Effect
steps_of s sequence count = record {
  session = with_mode (with_sequence s sequence) (Steps count 0);
  line = record { sequence = sequence; word = Stop; first = 0; second = 0 };
}

-- the text of a record: its line, but of an ST none
abbrev pub under_way : Mode → Bool
under_way Start = false
under_way Records = false
under_way (Steps left taken) = true
under_way Over = false

abbrev pub text_of : Mode → Line → List ℕ
text_of mode line = when (under_way mode) [] (line_of line)
