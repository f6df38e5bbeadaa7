-- The lines of an ST are turns: the one that stops it, and one for each step.
use mathlib.Core.Path.{◌≡◌, refl, sym, ap}
use Prim.Native.Nat.{ℕ, min}
use mathlib.Core.Bool.{true, false}
use mathlib.Core.List.{List, ◌++◌}
use lib.ListN.{length, take}
use borrow.Author.Tests.{eq-eqb, eqb-true}
use Rattle.kit.proofs.Choice.{yes, no}
use Rattle.kit.specs.Limits.{most_windows}
use Rattle.memory.specs.declared.window.Window.{Window}
use Rattle.memory.specs.Windows.{windows_of}
use Rattle.state.specs.declared.engine.Engine.{Engine}
use Rattle.steps.specs.declared.event.Advanced.{Advanced}
use Rattle.steps.specs.Step.{AfterAdvance, advance_seen, advance_of}
use Rattle.runs.specs.Run.{refusal_of}
use Rattle.steps.specs.Claims.{Bytes}
use Rattle.runs.proofs.Acceptable.{acceptable-unrefused, unrefused-acceptable, advance-acceptable}
use Rattle.listing.specs.Line.{line_of}
use Rattle.session.specs.declared.Mode.TheVariants as modes
use Rattle.session.specs.declared.Session.{Session}
use Rattle.session.specs.Effect.{Lent, lend, after}
use Rattle.session.specs.Stepping.{used_of, stops_of, accepted_of, stopped_of, stepped_of}
use Rattle.session.specs.Pass.{replay_as, step_on, turn_on}

-- a session in the midst of an ST
abbrev pub stepping : Session → Engine → ℕ → ℕ → Session
stepping s e left taken = record { engine = e; monitor = s.monitor; sequence = s.sequence; windows = s.windows; chosen = s.chosen; mode = modes.Steps left taken }

module _ (s : Session) (e : Engine) (left taken : ℕ) (lent : Lent) (base : ℕ) (input : List ℕ) (at : ℕ) where
  pub stop-turn : stops_of e.phase left taken (accepted_of e s.windows (length lent.memory)) ≡ true → (text : List ℕ)
      → turn_on base input (replay_as (stepping s e left taken) at lent text)
      ≡ replay_as (stopped_of (stepping s e left taken) taken).session at lent (text ++ line_of (stopped_of (stepping s e left taken) taken).line)
  unfolding turn_on
  stop-turn stop text =
      ap (step_on (replay_as (stepping s e left taken) at lent text))
      (sym (yes (after (stepped_of (stepping s e left taken) left taken r.event r.engine) (lend r.memory lent.windows lent.other)) stop refl))
    where
      r : AfterAdvance
      r = advance_of e lent.memory (windows_of (take (used_of s.windows) lent.windows))

  pub step-turn : stops_of e.phase left taken (accepted_of e s.windows (length lent.memory)) ≡ false → {a : Advanced} {m : List ℕ}
      → advance_seen a m ≡ advance_of e lent.memory (windows_of (take (used_of s.windows) lent.windows)) → (text : List ℕ)
      → turn_on base input (replay_as (stepping s e left taken) at lent text)
      ≡ replay_as (stepped_of (stepping s e left taken) left taken a.event a.engine).session at (lend m lent.windows lent.other)
      (text ++ line_of (stepped_of (stepping s e left taken) left taken a.event a.engine).line)
  unfolding turn_on
  step-turn go {a} {m} ensures text =
      ap (step_on (replay_as (stepping s e left taken) at lent text))
      (sym (no (after (stopped_of (stepping s e left taken) taken) lent) go
      (ap (λ (r : AfterAdvance). after (stepped_of (stepping s e left taken) left taken r.event r.engine) (lend r.memory lent.windows lent.other)) ensures)))

-- refusals need not be judged again: a step that is not refused leaves a state that is not
pub accepted-on : (e : Engine) (n : ℕ) (m : List ℕ) (windows : List Window) → Bytes m → accepted_of e n (length m) ≡ true
    → accepted_of (advance_of e m windows).engine n (length (advance_of e m windows).memory) ≡ true
accepted-on e n m windows bytes h =
    let a = unrefused-acceptable e m (min n most_windows) (eqb-true (refusal_of e (length m) (min n most_windows)) 0 h) bytes in
    eq-eqb (refusal_of (advance_of e m windows).engine (length (advance_of e m windows).memory) (min n most_windows)) 0
    (acceptable-unrefused _ _ (min n most_windows) (advance-acceptable e m windows (min n most_windows) a))
