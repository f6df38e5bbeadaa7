-- A turn that can be taken leaves fewer to take.
use mathlib.Core.Path.{◌≡◌, refl, sym, subst}
use Prim.Native.Nat.{ℕ, suc, ◌+◌, ◌-◌, ◌*◌, ◌≤◌, ◌<◌}
use mathlib.Core.Bool.{Bool, true, false}
use mathlib.Core.List.{List}
use native.Mathlib.Omega.{arith}
use lib.ListN.{length}
use lib.Dec.{eqb, leb, ltb}
use borrow.Author.Tests.{leb-false, ltb-true}
use Rattle.kit.specs.Choice.{either}
use Rattle.kit.specs.Limits.{most_windows}
use Rattle.kit.specs.Settings.{legal_settings}
use Rattle.kit.proofs.Choice.{cases, never}
use Rattle.monitor.specs.Monitor.{bus_clock_of}
use Rattle.record.specs.declared.reading.Body.{Body}
use Rattle.record.specs.declared.reading.Body.TheVariants.{Settings, Memory, Window, Write, Read, Steps, Astray, Clock}
use Rattle.record.specs.Reading.{Reading}
use Rattle.std.specs.Prelude.{Some, None}
use Rattle.record.specs.Reading.{reading_of}
use Rattle.session.specs.declared.Mode.{Mode}
use Rattle.session.specs.declared.Mode.TheVariants as modes
use Rattle.session.specs.declared.Session.{Session}
use Rattle.session.specs.declared.Effect.{Effect}
use Rattle.session.specs.Chosen.{two_of, called_of}
use Rattle.session.specs.Effect.{Lent, After}
use Rattle.session.specs.Stepping.{most_steps, stops_of, accepted_of, step_line_of}
use Rattle.session.specs.Turn.{apply_of, Turn, stale_of, record_by}
use Rattle.session.specs.Pass.{ready_of, ready_in, Replay, swapped, next_on, turn_by, turn_on}
use Rattle.session.proofs.Records.{inside}
use Rattle.whole.specs.Listing.{most_turns}

-- turns that may still come with `left` bytes to read
abbrev measure : ℕ → Mode → ℕ
measure left modes.Start = suc (most_turns * left)
measure left modes.Records = most_turns * left
measure left (modes.Steps n taken) = most_turns * left + suc (most_steps - taken)
measure left modes.Over = 0

neither : (t u : Bool) → either t u ≡ false → (t ≡ false) × (u ≡ false)
neither true u e = absurd (never (sym e))
neither false u e = (refl, e)

-- a line of an ST that has taken `taken` steps leaves fewer
step_less : (s : Session) (n taken : ℕ) (lent : Lent) (left : ℕ)
    → measure left (step_line_of s n taken lent).effect.session.mode < most_turns * left + suc (most_steps - taken)
step_less s n taken lent left =
    cases (λ (a : After). measure left a.effect.session.mode < most_turns * left + suc (most_steps - taken))
    (stops_of s.engine.phase n taken (accepted_of s.engine s.windows (length lent.memory))) (λ _. omega arith)
    (λ go. omega (arith, leb-false most_steps taken (neither (leb most_steps taken) _ (neither (eqb n 0) _ go).1).0))

module _ (s : Session) (position : ℕ) (input : List ℕ) (at : ℕ) (lent : Lent) (reads : s.mode ≡ modes.Records) where
  -- a record that was read to `next`
  module _ (next : ℕ) (on : at < next) (within : next ≤ length input) where
    abbrev Less : Effect → Type 0
    Less e = measure (length input - next) e.session.mode < most_turns * (length input - at)

    over : 0 < most_turns * (length input - at)
    over = omega arith

    stays : measure (length input - next) s.mode < most_turns * (length input - at)
    stays =
        let less : most_turns * (length input - next) < most_turns * (length input - at) = omega arith in
        subst (λ (mode : Mode). measure (length input - next) mode < most_turns * (length input - at)) (sym reads) less

    apply-less : (n : ℕ) (b : Body) → Less (apply_of s n position input at lent b).effect
    unfolding apply_of
    apply-less n (Settings two width beats) = cases Less (legal_settings width beats) (λ _. stays) (λ _. over)
    apply-less n (Memory address count) = cases (λ (a : After). Less a.effect) (ltb (length lent.memory) (address + count)) (λ _. over) (λ _. stays)
    apply-less n (Window start count) = cases (λ (a : After). Less a.effect) (leb most_windows s.windows) (λ _. over) (λ _. stays)
    apply-less n (Write offset value) = stays
    apply-less n (Read offset) = stays
    apply-less n (Steps count) = omega arith
    apply-less n Astray = over
    apply-less n (Clock bits clock) =
        cases Less (ltb 7 bits) (λ _. over)
        (λ _. cases Less (eqb (bus_clock_of s.monitor s.engine.settings.width s.engine.settings.beats clock).number 0) (λ _. stays) (λ _. over))

  record-less : 0 < length input - at → (v : Reading) → reading_of input at (eqb position 0) (two_of s.chosen) ≡ v
      → (let t = record_by s position input at lent v in measure (length input - t.at) t.effect.session.mode) < most_turns * (length input - at)
  record-less some None e = omega arith
  record-less some (Some (r, next)) e =
      let i = inside input at (eqb position 0) (two_of s.chosen) r next e in
      cases (λ (t : Turn). measure (length input - t.at) t.effect.session.mode < most_turns * (length input - at)) (stale_of s.sequence r.sequence r.body) (λ _. omega arith)
      (λ _. apply-less next i.0 i.1 r.sequence r.body)

abbrev pub measure_of : List ℕ → Replay → ℕ
measure_of input r = measure (length input - r.at) r.session.mode

-- the next record
next-less : (input : List ℕ) (r : Replay) → r.session.mode ≡ modes.Records → 0 < length input - r.at
    → measure_of input (next_on 0 input r) < most_turns * (length input - r.at)
next-less input r e some =
    record-less r.session (0 + r.at) input r.at r.lent e some (reading_of input r.at (eqb (0 + r.at) 0) (two_of r.session.chosen)) refl

pub turn-less : (input : List ℕ) (r : Replay) → ready_in input true r ≡ true → measure_of input (turn_on 0 input r) < measure_of input r
unfolding turn_on
turn-less input r ready = go r.session.mode refl ready
  where
    go : (mode : Mode) → r.session.mode ≡ mode → ready_of mode (length input - r.at) true ≡ true
        → measure_of input (turn_by 0 input r mode) < measure (length input - r.at) mode
    go modes.Start e f = omega arith
    go modes.Records e f =
        cases (λ (x : Replay). measure_of input (next_on 0 input x) < most_turns * (length input - r.at)) (called_of r.session.chosen input r.at)
        (λ _. next-less input (swapped r) e (ltb-true 0 (length input - r.at) f)) (λ _. next-less input r e (ltb-true 0 (length input - r.at) f))
    go (modes.Steps n taken) e f = step_less r.session n taken r.lent (length input - r.at)
    go modes.Over e f = absurd (never f)
