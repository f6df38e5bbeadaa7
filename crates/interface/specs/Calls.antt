-- include/belikumba.h, "Engine": each call over an engine's words is the call on the engine that they hold.
use Rattle.std.specs.Prelude.{ℕ, ◌/◌, List, length, eqb, Result, Ok, Err}
use Rattle.kit.specs.Choice.{when}
use Rattle.kit.specs.declared.answer.Refusal.{Refusal}
use Rattle.kit.specs.Answer.{number_of}
use Rattle.kit.specs.Settings.{legal_of}
use Rattle.memory.specs.Windows.{windows_of}
use Rattle.state.specs.declared.engine.Engine.{Engine}
use Rattle.state.specs.State.{well_formed_of, interrupt_line_of}
use Rattle.reads.specs.Read.{Value, gives, no_value, read_of}
use Rattle.registers.specs.Write.{AfterWrite, write_of}
use Rattle.steps.specs.declared.event.Event.{Event}
use Rattle.steps.specs.declared.event.Event.TheVariants.{None}
use Rattle.steps.specs.Report.{report_of}
use Rattle.steps.specs.Step.{begun}
use Rattle.runs.specs.Run.{refusal_of, AfterWalk, after_steps, walk_from, AfterStep, step_of, AfterRun, run_of}
use Rattle.interface.specs.declared.accesses.ValueForC.{ValueForC}
use Rattle.interface.specs.declared.stepping.SteppedForC.{SteppedForC}
use Rattle.interface.specs.declared.stepping.RanForC.{RanForC}
use Rattle.interface.specs.declared.stepping.WalkedWords.{WalkedWords}
use Rattle.words.specs.EngineWords.{truth, words_of, engine_of}

abbrev pub value_seen : ValueForC → Value
value_seen r = record { answer = r.answer; value = r.value }

abbrev pub read_words_of : List ℕ → ℕ → Value
read_words_of w offset = read_of (engine_of w) offset

-- the interrupt line: 1, 9
abbrev pub line_of : Engine → Value
line_of s =
    when (legal_of s.settings)
    (when (well_formed_of s) (gives (truth (interrupt_line_of s))) (no_value 9))
    (no_value 1)

abbrev pub line_words_of : List ℕ → Value
line_words_of w = line_of (engine_of w)

-- the words after a call: those of the engine it left, or on a refusal as they were
abbrev pub words_after : ℕ → Engine → List ℕ → List ℕ
words_after answer s w = when (eqb answer 0) (words_of s) w

-- a write: its answer's number and the words
pub record WordsAfterWrite : Type 0 where
  pub answer : ℕ
  pub words : List ℕ

abbrev pub words_seen : ℕ → List ℕ → WordsAfterWrite
words_seen answer w = record { answer = answer; words = w }

abbrev pub words_after_write : AfterWrite → List ℕ → WordsAfterWrite
words_after_write r w = words_seen r.answer (words_after r.answer r.engine w)

abbrev pub write_words_of : List ℕ → ℕ → ℕ → WordsAfterWrite
write_words_of w offset value = words_after_write (write_of (engine_of w) offset value) w

-- some steps: the answer's number, the last event, how many they were, the words and the memory
pub record WordsAfterWalk : Type 0 where
  pub answer : ℕ
  pub event : Event
  pub steps : ℕ
  pub words : List ℕ
  pub memory : List ℕ

abbrev pub walk_words_seen : Result WalkedWords Refusal → List ℕ → List ℕ → WordsAfterWalk
walk_words_seen (Ok r) w m = record { answer = 0; event = r.event; steps = r.steps; words = w; memory = m }
walk_words_seen (Err refusal) w m = record { answer = number_of refusal; event = None; steps = 0; words = w; memory = m }

abbrev pub words_after_walk : ℕ → AfterWalk → List ℕ → WordsAfterWalk
words_after_walk n r w = record { answer = n; event = r.event; steps = r.steps; words = words_after n r.engine w; memory = r.memory }

abbrev pub walk_words_of : ℕ → List ℕ → List ℕ → List ℕ → WordsAfterWalk
walk_words_of most w m windows =
    let s = engine_of w in
    let n = refusal_of s (length m) (length windows / 2) in
    words_after_walk n (when (eqb n 0) (walk_from most 0 (begun s m) (windows_of windows)) (after_steps 0 (begun s m))) w

-- a step's answer, and what is told of its event
abbrev pub step_report_of : ℕ → Event → SteppedForC
step_report_of n e = record { answer = n; event = (report_of e).number; first = (report_of e).first; second = (report_of e).second }

-- a step: its report, the words and the memory
pub record WordsAfterStep : Type 0 where
  pub report : SteppedForC
  pub words : List ℕ
  pub memory : List ℕ

abbrev pub step_words_seen : SteppedForC → List ℕ → List ℕ → WordsAfterStep
step_words_seen r w m = record { report = r; words = w; memory = m }

abbrev pub words_after_step : AfterStep → List ℕ → WordsAfterStep
words_after_step r w = step_words_seen (step_report_of r.answer r.event) (words_after r.answer r.engine w) r.memory

abbrev pub step_words_of : List ℕ → List ℕ → List ℕ → WordsAfterStep
step_words_of w m windows = words_after_step (step_of (engine_of w) m windows) w

-- a run: its answer's number, the steps taken, the words and the memory
pub record WordsAfterRun : Type 0 where
  pub answer : ℕ
  pub steps : ℕ
  pub words : List ℕ
  pub memory : List ℕ

abbrev pub run_words_seen : RanForC → List ℕ → List ℕ → WordsAfterRun
run_words_seen r w m = record { answer = r.answer; steps = r.steps; words = w; memory = m }

abbrev pub words_after_run : AfterRun → List ℕ → WordsAfterRun
words_after_run r w = record { answer = r.answer; steps = r.steps; words = words_after r.answer r.engine w; memory = r.memory }

abbrev pub run_words_of : ℕ → List ℕ → List ℕ → List ℕ → WordsAfterRun
run_words_of most w m windows = words_after_run (run_of most (engine_of w) m windows) w
