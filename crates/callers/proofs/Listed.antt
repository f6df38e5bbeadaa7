-- The claim of specs/Listed.antt: the turns of an ST are the steps of a run, and one that stops.
use mathlib.Core.Path.{◌≡◌, refl, sym, ap, ap₂, ◌∙◌}
use Prim.Native.Nat.{ℕ, suc, ◌+◌, ◌-◌, ◌*◌, ◌/◌, ◌≤◌, ◌<◌, min}
use mathlib.Core.Bool.{Bool, true, false, not}
use mathlib.Core.List.{List, ◌++◌, append_assoc}
use native.Mathlib.Omega.{arith}
use lib.ListN.{length, take}
use lib.Seq.{length-take-le}
use lib.Dec.{eqb, leb}
use borrow.Author.Tests.{eqb-true, ne_eqb, lt-leb}
use Rattle.kit.specs.Choice.{either}
use Rattle.kit.specs.Limits.{most_windows}
use Rattle.kit.proofs.Choice.{either-right}
use Rattle.memory.specs.Windows.{windows_of}
use Rattle.state.specs.declared.engine.Engine.{Engine}
use Rattle.state.specs.State.{busy_of}
use Rattle.steps.specs.Step.{advance_of}
use Rattle.steps.specs.Claims.{Bytes}
use Rattle.steps.proofs.Keeps.{advance-keeps}
use Rattle.runs.specs.Run.{refusal_of, run_of}
use Rattle.listing.specs.Line.{line_of}
use Rattle.session.specs.declared.Mode.TheVariants.{Records}
use Rattle.session.specs.declared.Session.{Session}
use Rattle.session.specs.Effect.{lend}
use Rattle.session.specs.Stepping.{used_of, most_steps, event_line_of, stop_line_of, stops_of, accepted_of}
use Rattle.session.specs.Pass.{replay_as, turns_of}
use Rattle.session.proofs.StepLines.{stepping, stop-turn, step-turn, accepted-on}
use Rattle.session.proofs.Turns.{turns-join}
use Rattle.whole.proofs.Sound.{sessions}
use Rattle.claims.specs.Transfers.{Act, after, steps, left}
use Rattle.claims.specs.Calls.{steps_of}
use Rattle.claims.specs.Events.{events_of}
use Rattle.callers.specs.Listed.{event_lines, StepsListed}
use Rattle.claims.proofs.Acts.{events, events-length, steps-induct}
use Rattle.claims.proofs.Judged.{Judged, bars, goes, judged}

-- an ST goes on: steps are left, fewer than the most are taken, the step is not refused, and the engine is busy
unstopped : (none all accepted busy : Bool) → none ≡ false → all ≡ false → accepted ≡ true → busy ≡ true
    → either none (either all (either (not accepted) (not busy))) ≡ false
unstopped none all accepted busy a b c d = rw (a, b, c, d)

module _ (s : Session) (o : Engine) (w : List ℕ) (base : ℕ) (input : List ℕ) (at : ℕ) where
  abbrev lent_of : List ℕ
  lent_of = take (used_of s.windows) w

  -- the session after an ST
  abbrev rested : Engine → Session
  rested e = record { engine = e; monitor = s.monitor; sequence = s.sequence; windows = s.windows; chosen = s.chosen; mode = Records }

  -- an ST of n steps more, `taken` of which are behind it, ends as its acts say
  abbrev Ends : ℕ → Engine → List ℕ → List Act → Type 0
  Ends n e m acts = (taken : ℕ) (text : List ℕ) → taken + n ≤ most_steps → accepted_of e s.windows (length m) ≡ true → Bytes m
      → turns_of (steps acts + 1) base input (replay_as (stepping s e n taken) at (lend m w o) text)
      ≡ replay_as (rested (after e acts)) at (lend (left m e acts) w o)
      (text ++ (event_lines s.sequence (events e acts) ++ line_of (stop_line_of s.sequence (taken + steps acts) (after e acts).phase)))

  stops : (n : ℕ) (e : Engine) (m : List ℕ) (taken : ℕ) (text : List ℕ) → stops_of e.phase n taken (accepted_of e s.windows (length m)) ≡ true
      → turns_of 1 base input (replay_as (stepping s e n taken) at (lend m w o) text)
      ≡ replay_as (rested e) at (lend m w o) (text ++ line_of (stop_line_of s.sequence (taken + 0) e.phase))
  unfolding turns_of
  stops n e m taken text stop =
      let none : taken ≡ taken + 0 = omega arith in
      stop-turn s e n taken (lend m w o) base input at stop text
      ∙ ap (λ (k : ℕ). replay_as (rested e) at (lend m w o) (text ++ line_of (stop_line_of s.sequence k e.phase))) none

  goes_on : (n : ℕ) (e : Engine) (m : List ℕ) (taken : ℕ) (text : List ℕ) → taken < most_steps → accepted_of e s.windows (length m) ≡ true
      → busy_of e.phase ≡ true
      → let r = advance_of e m (windows_of lent_of) in
      turns_of 1 base input (replay_as (stepping s e (suc n) taken) at (lend m w o) text)
      ≡ replay_as (stepping s r.engine (suc n - 1) (taken + 1)) at (lend r.memory w o) (text ++ line_of (event_line_of s.sequence r.event))
  unfolding turns_of
  goes_on n e m taken text few accepted busy =
      step-turn s e (suc n) taken (lend m w o) base input at
      (unstopped (eqb (suc n) 0) (leb most_steps taken) (accepted_of e s.windows (length m)) (busy_of e.phase) (ne_eqb (suc n) 0 (λ z. omega arith)) (lt-leb most_steps taken few) accepted busy) refl text

  ends : (n : ℕ) (e : Engine) (m : List ℕ) → Ends n e m (steps_of n e m (windows_of lent_of))
  ends =
      steps-induct (windows_of lent_of) Ends
      (λ e m taken text few accepted bytes. stops 0 e m taken text refl)
      (λ n e m idle taken text few accepted bytes.
      stops (suc n) e m taken text (sym (either-right (eqb (suc n) 0) (either-right (leb most_steps taken) (either-right (not (accepted_of e s.windows (length m))) (sym (ap not idle)))))))
      (λ n e m busy more taken text few accepted bytes.
      let r = advance_of e m (windows_of lent_of) in
      let later = steps_of n r.engine r.memory (windows_of lent_of) in
      let line = line_of (event_line_of s.sequence r.event) in
      let lines = event_lines s.sequence (events r.engine later) in
      let end = after r.engine later in
      let turns : suc (steps later) + 1 ≡ 1 + (steps later + 1) = omega arith in
      let left_over : suc n - 1 ≡ n = omega arith in
      let counted : taken + 1 + steps later ≡ taken + suc (steps later) = omega arith in
      ap (λ (k : ℕ). turns_of k base input (replay_as (stepping s e (suc n) taken) at (lend m w o) text)) turns
      ∙ turns-join 1 (steps later + 1) base input (replay_as (stepping s e (suc n) taken) at (lend m w o) text)
      ∙ ap (turns_of (steps later + 1) base input) (goes_on n e m taken text (omega arith) accepted busy
      ∙ ap (λ (k : ℕ). replay_as (stepping s r.engine k (taken + 1)) at (lend r.memory w o) (text ++ line)) left_over)
      ∙ more (taken + 1) (text ++ line) (omega arith) (accepted-on e s.windows m (windows_of lent_of) bytes accepted) ((advance-keeps e m (windows_of lent_of)).bytes bytes)
      ∙ ap (λ (k : ℕ). replay_as (rested end) at (lend (left r.memory r.engine later) w o) (text ++ line ++ (lines ++ line_of (stop_line_of s.sequence k end.phase)))) counted
      ∙ ap (replay_as (rested end) at (lend (left r.memory r.engine later) w o))
      (append_assoc text line (lines ++ line_of (stop_line_of s.sequence (taken + suc (steps later)) end.phase))
      ∙ ap (λ (x : List ℕ). text ++ x) (sym (append_assoc line lines (line_of (stop_line_of s.sequence (taken + suc (steps later)) end.phase))))))

-- the windows that a step is lent, by their numbers
lent-windows : (used : ℕ) (w : List ℕ) → length w ≡ 2 * most_windows → length (take (used_of used) w) / 2 ≡ min used most_windows
lent-windows used w room =
    let taken : length (take (used_of used) w) ≡ used_of used = length-take-le (used_of used) w (omega arith) in
    let half : 2 * min used most_windows / 2 ≡ min used most_windows = omega arith in
    ap (λ (n : ℕ). n / 2) taken ∙ half

pub steps-listed : StepsListed
steps-listed s lent n mode few sound base input at text = go (judged s.engine lent.memory windows)
  where
    windows : List ℕ
    windows = take (used_of s.windows) lent.windows

    acts : List Act
    acts = steps_of n s.engine lent.memory (windows_of windows)

    accepted : accepted_of s.engine s.windows (length lent.memory) ≡ true
    accepted = sessions.accepted s lent.other lent.memory lent.windows sound

    go : Judged s.engine lent.memory windows
        → let run = run_of n s.engine lent.memory windows in
        let told = events_of n s.engine lent.memory windows in
        turns_of (length told + 1) base input (replay_as s at lent text)
        ≡ replay_as (rested s lent.other lent.windows base input at run.engine) at (lend run.memory lent.windows lent.other)
        (text ++ (event_lines s.sequence told ++ line_of (stop_line_of s.sequence run.steps run.engine.phase)))
    go (bars z d) =
        absurd (z (ap (refusal_of s.engine (length lent.memory)) (lent-windows s.windows lent.windows sound.chosen.room) ∙ eqb-true (refusal_of s.engine (length lent.memory) (min s.windows most_windows)) 0 accepted))
    go (goes e d) =
        let k = d n in
        let same : s ≡ stepping s s.engine n 0 = λ i. record { engine = s.engine; monitor = s.monitor; sequence = s.sequence; windows = s.windows; chosen = s.chosen; mode = mode i } in
        let count = ap (λ (x : ℕ). x + 1) (ap length k.events ∙ events-length s.engine acts) in
        let all : 0 + steps acts ≡ steps acts = omega arith in
        ap₂ (λ (x : ℕ) (y : Session). turns_of x base input (replay_as y at lent text)) count same
        ∙ ends s lent.other lent.windows base input at n s.engine lent.memory 0 text (omega arith) accepted sound.chosen.bytes
        ∙ (λ i. replay_as (rested s lent.other lent.windows base input at (sym k.engine i)) at (lend (sym k.memory i) lent.windows lent.other)
        (text ++ (event_lines s.sequence (sym k.events i) ++ line_of (stop_line_of s.sequence ((all ∙ sym k.steps) i) (sym k.engine i).phase))))
