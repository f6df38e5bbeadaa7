-- RULES.md, "Trace and listing": an ST record prints a line for each event of a run, in order, and then its steps and Idle.
use Rattle.std.specs.Prelude.{◌≡◌, ℕ, ◌+◌, ◌≤◌, List, [], ◌∷◌, ◌++◌, length, take}
use Rattle.steps.specs.declared.event.Event.{Event}
use Rattle.runs.specs.Run.{run_of}
use Rattle.listing.specs.Line.{line_of}
use Rattle.session.specs.declared.Mode.TheVariants.{Records, Steps}
use Rattle.session.specs.declared.Session.{Session}
use Rattle.session.specs.Effect.{with_engine, with_mode, Lent, lend}
use Rattle.session.specs.Stepping.{used_of, most_steps, event_line_of, stop_line_of}
use Rattle.session.specs.Pass.{replay_as, turns_of}
use Rattle.whole.specs.Sound.{SoundIn}
use Rattle.claims.specs.Events.{events_of}

-- a line for each of some events, as text
abbrev pub event_lines : ℕ → List Event → List ℕ
event_lines sequence [] = []
event_lines sequence (e ∷ more) = line_of (event_line_of sequence e) ++ event_lines sequence more

-- an ST of n steps that was just read, in any session of a replay: the turns that end it, one for each event and one for
-- `stop`, leave what a run of n steps leaves, and print its events and its steps; of two engines the other one stays as it is
abbrev pub StepsListed : Type 0
StepsListed = (s : Session) (lent : Lent) (n : ℕ) → s.mode ≡ Steps n 0 → n ≤ most_steps → SoundIn s lent.other lent.memory lent.windows
    → (base : ℕ) (input : List ℕ) (at : ℕ) (text : List ℕ)
    → let windows = take (used_of s.windows) lent.windows in
    let run = run_of n s.engine lent.memory windows in
    let told = events_of n s.engine lent.memory windows in
    turns_of (length told + 1) base input (replay_as s at lent text)
    ≡ replay_as (with_mode (with_engine s s.sequence run.engine) Records) at (lend run.memory lent.windows lent.other)
    (text ++ (event_lines s.sequence told ++ line_of (stop_line_of s.sequence run.steps run.engine.phase)))
