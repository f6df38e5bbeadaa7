-- What the turns of a trace of two engines do to each of them.
use mathlib.Core.Path.{◌≡◌, refl, sym, ap, ap₂, subst, ◌∙◌}
use Prim.Native.Nat.{ℕ, ◌+◌}
use mathlib.Core.Bool.{Bool, true, false}
use mathlib.Core.List.{List}
use native.Mathlib.Omega.{arith}
use lib.ListN.{length, take}
use lib.Dec.{eqb, leb, ltb}
use Rattle.kit.specs.Limits.{most_windows}
use Rattle.kit.specs.Settings.{legal_settings}
use Rattle.kit.specs.declared.settings.Settings.{Settings as Settings'}
use Rattle.kit.proofs.Choice.{yes, no, cases, never}
use Rattle.memory.specs.Windows.{windows_of}
use Rattle.monitor.specs.Monitor.{bus_clock_of}
use Rattle.state.specs.declared.engine.Engine.{Engine}
use Rattle.state.specs.State.{fresh_of}
use Rattle.registers.specs.Write.{write_of}
use Rattle.registers.proofs.Writes.{write-keeps-settings}
use Rattle.steps.proofs.Keeps.{advance-keeps}
use Rattle.record.specs.declared.reading.Body.{Body}
use Rattle.record.specs.declared.reading.Body.TheVariants.{Settings, Memory, Window, Write, Read, Steps, Astray, Clock}
use Rattle.record.specs.declared.reading.Record.{Record}
use Rattle.record.specs.Reading.{Reading}
use Rattle.std.specs.Prelude.{Some, None}
use Rattle.record.specs.Reading.{reading_of}
use Rattle.record.specs.Names.{names_of}
use Rattle.record.proofs.Naming.{named-once}
use Rattle.session.specs.declared.chosen.Chosen.{Chosen}
use Rattle.session.specs.declared.chosen.Chosen.TheVariants.{Only, First, Second}
use Rattle.session.specs.declared.Mode.TheVariants as modes
use Rattle.session.specs.declared.Session.{Session}
use Rattle.session.specs.declared.Effect.{Effect}
use Rattle.session.specs.Chosen.{two_of, turned_of, called_of, with_settings}
use Rattle.session.specs.Effect.{Lent, After, after, with_chosen}
use Rattle.session.specs.Stepping.{used_of, stops_of, accepted_of, step_line_of}
use Rattle.session.specs.Turn.{Turn, turn_as, apply_of, stale_of, record_by}
use Rattle.session.specs.Pass.{Replay, replay_as, record_on, step_on, swapped, handed, next_on, turn_by, turn_on}
use Rattle.session.proofs.Turns.{both-no}
use Rattle.whole.specs.Listing.{at_start}
use Rattle.whole.specs.Engines.{first_by, second_by, other_of, first_of, second_of, changes_engine, NextFor, Keeps, Engines}

-- the chosen engine of a replay, and the other one
record Has (t : Replay) (c : Chosen) (e o : Engine) : Type 0 where
  chosen : t.session.chosen ≡ c
  engine : t.session.engine ≡ e
  other : other_of t ≡ o

own : (t : Replay) → Has t t.session.chosen t.session.engine (other_of t)
own t = record { chosen = refl; engine = refl; other = refl }

module _ {t : Replay} {c : Chosen} {e o : Engine} (h : Has t c e o) where
  as_first : first_of t ≡ first_by c e o
  as_first = ap (λ (x : Chosen). first_by x t.session.engine (other_of t)) h.chosen ∙ ap₂ (first_by c) h.engine h.other

  as-second : second_of t ≡ second_by c e o
  as-second = ap (λ (x : Chosen). second_by x t.session.engine (other_of t)) h.chosen ∙ ap₂ (second_by c) h.engine h.other

-- ---- the engine that a record is for is chosen

module _ (s : Session) (at : ℕ) (lent : Lent) (text : List ℕ) where
  -- a replay with any choice
  abbrev choosing : Chosen → Replay
  choosing c = replay_as (with_chosen s c) at lent text

  -- a change of places leaves both as they are
  swapped-keeps : (c : Chosen) → two_of c ≡ true → Keeps (choosing c) (swapped (choosing c))
  swapped-keeps Only e = absurd (never e)
  swapped-keeps First e = record { first = refl; second = refl }
  swapped-keeps Second e = record { first = refl; second = refl }

  hands-first : (input : List ℕ) (c : Chosen) → two_of c ≡ true → names_of input at 1 ≡ true → Has (handed input (choosing c)) First (first_of (choosing c)) (second_of (choosing c))
  hands-first input Only e n = absurd (never e)
  hands-first input First e n =
      subst (λ (y : Replay). Has y First (first_of (choosing First)) (second_of (choosing First))) (no _ (named-once input at 1 2 (λ z. omega arith) n) refl)
      (own (choosing First))
  hands-first input Second e n =
      subst (λ (y : Replay). Has y First (first_of (choosing Second)) (second_of (choosing Second))) (yes _ n refl) (own (swapped (choosing Second)))

  hands-second : (input : List ℕ) (c : Chosen) → two_of c ≡ true → names_of input at 2 ≡ true → Has (handed input (choosing c)) Second (second_of (choosing c)) (first_of (choosing c))
  hands-second input Only e n = absurd (never e)
  hands-second input First e n =
      subst (λ (y : Replay). Has y Second (second_of (choosing First)) (first_of (choosing First))) (yes _ n refl) (own (swapped (choosing First)))
  hands-second input Second e n =
      subst (λ (y : Replay). Has y Second (second_of (choosing Second)) (first_of (choosing Second))) (no _ (named-once input at 2 1 (λ z. omega arith) n) refl)
      (own (choosing Second))

-- there are two as before
turned_two : (c : Chosen) → two_of c ≡ true → two_of (turned_of c) ≡ true
turned_two Only e = e
turned_two First e = e
turned_two Second e = e

choice-keeps : (input : List ℕ) (r : Replay) → two_of r.session.chosen ≡ true → Keeps r (handed input r)
choice-keeps input r two =
    cases (Keeps r) (called_of r.session.chosen input r.at) (λ _. swapped-keeps r.session r.at r.lent r.text r.session.chosen two)
    (λ _. record { first = refl; second = refl })

-- ---- a record

module _ (base : ℕ) (input : List ℕ) (sequence : ℕ) (body : Body) where
  -- the record at y's place is read and in sequence
  record Ready (next : ℕ) (y : Replay) : Type 0 where
    read : reading_of input y.at (eqb (base + y.at) 0) (two_of y.session.chosen) ≡ Some ((record { sequence = sequence; body = body }), next)
    rises : stale_of y.session.sequence sequence body ≡ false

  -- what it does
  abbrev applied : ℕ → Replay → Replay
  applied next y = record_on y (turn_as (apply_of y.session sequence (base + y.at) input y.at y.lent body) next)

  next-applied : (next : ℕ) (y : Replay) → Ready next y → next_on base input y ≡ applied next y
  next-applied next y h =
      ap (record_on y) (ap (record_by y.session (base + y.at) input y.at y.lent) h.read ∙ sym (no _ h.rises refl))

  module _ {n : ℕ} (r : Replay) (q : NextFor n base input r sequence body) where
    ready-handed : Ready q.next (handed input r)
    ready-handed =
        let read : (t : Bool) → t ≡ true → reading_of input r.at (eqb (base + r.at) 0) t ≡ Some ((record { sequence = sequence; body = body }), q.next) =
        λ t e. ap (reading_of input r.at (eqb (base + r.at) 0)) e ∙ q.read in
        cases (Ready q.next) (called_of r.session.chosen input r.at)
        (λ _. record { read = read _ (turned_two r.session.chosen q.two); rises = q.rises })
        (λ _. record { read = read _ q.two; rises = q.rises })

    turn-applied : turn_on base input r ≡ applied q.next (handed input r)
    unfolding turn_on
    turn-applied = ap (turn_by base input r) q.mode ∙ next-applied q.next (handed input r) ready-handed

    handed-keeps : Keeps r (handed input r)
    handed-keeps = choice-keeps input r q.two

-- the engine that a record for engine 1, and one for engine 2, finds chosen
handed-first : {base : ℕ} {input : List ℕ} {sequence : ℕ} {body : Body} (r : Replay) → NextFor 1 base input r sequence body
    → Has (handed input r) First (first_of r) (second_of r)
handed-first {input = input} r q = hands-first r.session r.at r.lent r.text input r.session.chosen q.two q.names

handed-second : {base : ℕ} {input : List ℕ} {sequence : ℕ} {body : Body} (r : Replay) → NextFor 2 base input r sequence body
    → Has (handed input r) Second (second_of r) (first_of r)
handed-second {input = input} r q = hands-second r.session r.at r.lent r.text input r.session.chosen q.two q.names

both-keep : {r y t : Replay} → Keeps r y → Keeps y t → Keeps r t
both-keep a b = record { first = b.first ∙ a.first; second = b.second ∙ a.second }

-- whatever engine it is for
module _ (base : ℕ) (input : List ℕ) (r : Replay) (n sequence : ℕ) where
  writes : (offset value : ℕ) → NextFor n base input r sequence (Write offset value) → {c : Chosen} {e o : Engine} → Has (handed input r) c e o
      → Has (turn_on base input r) c (write_of e offset value).engine o
  unfolding apply_of
  writes offset value q {c} {e} {o} h =
      let y = handed input r in
      subst (λ (t : Replay). Has t c (write_of e offset value).engine o) (sym (turn-applied base input sequence (Write offset value) r q))
      (record {
        chosen = h.chosen;
        engine = ap (λ (x : Engine). (write_of x offset value).engine) h.engine;
        other = ap (λ (x : Settings'). with_settings x y.lent.other) (write-keeps-settings y.session.engine offset value) ∙ h.other;
      })

  begins : (count : ℕ) → NextFor n base input r sequence (Steps count) → {c : Chosen} → (handed input r).session.chosen ≡ c
      → let t = turn_on base input r in Keeps r t × (t.session.mode ≡ modes.Steps count 0) × (t.session.chosen ≡ c)
  unfolding apply_of
  begins count q {c} e =
      subst (λ (t : Replay). Keeps r t × (t.session.mode ≡ modes.Steps count 0) × (t.session.chosen ≡ c)) (sym (turn-applied base input sequence (Steps count) r q))
      (both-keep (handed-keeps base input sequence (Steps count) r q) (record { first = refl; second = refl }), refl, e)

-- ---- every other record

module _ (base : ℕ) (input : List ℕ) (y : Replay) where
  abbrev Stays : ℕ → After → Type 0
  Stays next a = Keeps y (record_on y (turn_as a next))

  apply-keeps : (n next : ℕ) (b : Body) → changes_engine b ≡ false → Stays next (apply_of y.session n (base + y.at) input y.at y.lent b)
  unfolding apply_of
  apply-keeps n next (Settings two width beats) e = absurd (never (sym e))
  apply-keeps n next (Memory address count) e =
      cases (Stays next) (ltb (length y.lent.memory) (address + count)) (λ _. record { first = refl; second = refl }) (λ _. record { first = refl; second = refl })
  apply-keeps n next (Window start count) e =
      cases (Stays next) (leb most_windows y.session.windows) (λ _. record { first = refl; second = refl }) (λ _. record { first = refl; second = refl })
  apply-keeps n next (Write offset value) e = absurd (never (sym e))
  apply-keeps n next (Read offset) e = record { first = refl; second = refl }
  apply-keeps n next (Steps count) e = record { first = refl; second = refl }
  apply-keeps n next Astray e = record { first = refl; second = refl }
  apply-keeps n next (Clock bits clock) e =
      cases (λ (x : Effect). Stays next (after x y.lent)) (ltb 7 bits) (λ _. record { first = refl; second = refl })
      (λ _. cases (λ (x : Effect). Stays next (after x y.lent))
      (eqb (bus_clock_of y.session.monitor y.session.engine.settings.width y.session.engine.settings.beats clock).number 0)
      (λ _. record { first = refl; second = refl }) (λ _. record { first = refl; second = refl }))

  record-keeps : (v : Reading) → ((x : Record) (next : ℕ) → v ≡ Some (x, next) → stale_of y.session.sequence x.sequence x.body ≡ false → changes_engine x.body ≡ false)
      → Keeps y (record_on y (record_by y.session (base + y.at) input y.at y.lent v))
  record-keeps None h = record { first = refl; second = refl }
  record-keeps (Some (x, next)) h =
      cases (λ (t : Turn). Keeps y (record_on y t)) (stale_of y.session.sequence x.sequence x.body) (λ _. record { first = refl; second = refl })
      (λ e. apply-keeps x.sequence next x.body (h x next refl e))

others_keep : (base : ℕ) (input : List ℕ) (r : Replay) → r.session.mode ≡ modes.Records → two_of r.session.chosen ≡ true
    → ((x : Record) (next : ℕ) → reading_of input r.at (eqb (base + r.at) 0) true ≡ Some (x, next)
    → stale_of r.session.sequence x.sequence x.body ≡ false → changes_engine x.body ≡ false)
    → Keeps r (turn_on base input r)
unfolding turn_on
others_keep base input r mode two h =
    subst (λ (t : Replay). Keeps r t) (sym (ap (turn_by base input r) mode))
    (both-keep (choice-keeps input r two)
    (cases (λ (y : Replay). Keeps y (next_on base input y)) (called_of r.session.chosen input r.at)
    (λ _. record-keeps base input (swapped r) (reading_of input r.at (eqb (base + r.at) 0) (two_of (turned_of r.session.chosen))) (seen (two_of (turned_of r.session.chosen)) (turned_two r.session.chosen two)))
    (λ _. record-keeps base input r (reading_of input r.at (eqb (base + r.at) 0) (two_of r.session.chosen)) (seen (two_of r.session.chosen) two))))
  where
    seen : (t : Bool) → t ≡ true → (x : Record) (next : ℕ) → reading_of input r.at (eqb (base + r.at) 0) t ≡ Some (x, next)
        → stale_of r.session.sequence x.sequence x.body ≡ false → changes_engine x.body ≡ false
    seen t e x next f = h x next (sym (ap (reading_of input r.at (eqb (base + r.at) 0)) e) ∙ f)

-- ---- a step

stepped : (base : ℕ) (input : List ℕ) (r : Replay) (left taken : ℕ) → r.session.mode ≡ modes.Steps left taken → {c : Chosen} → r.session.chosen ≡ c
    → Has (turn_on base input r) c (step_line_of r.session left taken r.lent).effect.session.engine (other_of r)
unfolding turn_on
stepped base input r left taken mode {c} e =
    let s = r.session in
    let lent = r.lent in
    subst (λ (t : Replay). Has t c (step_line_of s left taken lent).effect.session.engine (other_of r)) (sym (ap (turn_by base input r) mode))
    (cases (λ (a : After). Has (step_on r a) c a.effect.session.engine (other_of r))
    (stops_of s.engine.phase left taken (accepted_of s.engine s.windows (length lent.memory))) (λ _. record { chosen = e; engine = refl; other = refl })
    (λ _. record {
      chosen = e;
      engine = refl;
      other = ap (λ (x : Settings'). with_settings x lent.other)
          (advance-keeps s.engine lent.memory (windows_of (take (used_of s.windows) lent.windows))).engine.settings;
    }))

-- ---- the start

set-up : (base : ℕ) (input : List ℕ) (sequence width beats next : ℕ) (y : Replay) → legal_settings width beats ≡ true
    → let x : Settings' = record { width = width; beats = beats } in
    Has (applied base input sequence (Settings true width beats) next y) First (fresh_of x) (with_settings x y.lent.other)
unfolding apply_of
set-up base input sequence width beats next y legal =
    let x : Settings' = record { width = width; beats = beats } in
    cases (λ (e : Effect). Has (record_on y (turn_as (after e y.lent) next)) First (fresh_of x) (with_settings x y.lent.other)) (legal_settings width beats)
    (λ _. record { chosen = refl; engine = refl; other = refl }) (λ e. absurd (never (sym e ∙ legal)))

starts : (t : List ℕ) (sequence width beats next : ℕ) → reading_of t 0 true false ≡ Some ((record { sequence = sequence; body = Settings true width beats }), next)
    → legal_settings width beats ≡ true
    → let fresh = fresh_of (record { width = width; beats = beats }) in Has (turn_on 0 t (turn_on 0 t at_start)) First fresh fresh
unfolding turn_on
starts t sequence width beats next read legal =
    let fresh = fresh_of (record { width = width; beats = beats }) in
    let y = turn_on 0 t at_start in
    subst (λ (x : Replay). Has x First fresh fresh)
    (sym (next-applied 0 t sequence (Settings true width beats) next y (record { read = read; rises = both-no (leb sequence 0) })))
    (set-up 0 t sequence width beats next y legal)

pub engines : Engines
engines = record {
  start = λ t sequence width beats next read legal.
      let h = starts t sequence width beats next read legal in (ap two_of h.chosen, as_first h, as-second h);
  writes-first = λ base input r sequence offset value q.
      let h = writes base input r 1 sequence offset value q (handed-first r q) in (as_first h, as-second h);
  writes-second = λ base input r sequence offset value q.
      let h = writes base input r 2 sequence offset value q (handed-second r q) in (as_first h, as-second h);
  others = others_keep;
  steps_first = λ base input r sequence count q. begins base input r 1 sequence count q (handed-first r q).chosen;
  steps-second = λ base input r sequence count q. begins base input r 2 sequence count q (handed-second r q).chosen;
  step-first = λ base input r left taken mode c.
      let h = stepped base input r left taken mode c in (as_first h, as-second h ∙ sym (ap (λ (x : Chosen). second_by x r.session.engine (other_of r)) c), h.chosen);
  step-second = λ base input r left taken mode c.
      let h = stepped base input r left taken mode c in (as_first h ∙ sym (ap (λ (x : Chosen). first_by x r.session.engine (other_of r)) c), as-second h, h.chosen);
}
