-- The claims of specs/Former.antt: without C2 at the start there is one engine, turn by turn.
use mathlib.Core.Path.{◌≡◌, refl, sym, ap, ap₂, ◌∙◌}
use mathlib.Core.Logic.{⊎_elim}
use Prim.Native.Nat.{ℕ, zero, suc, ◌+◌, ◌-◌, ◌*◌, ◌≤◌}
use mathlib.Core.Bool.{Bool, true, false}
use mathlib.Core.List.{List, [], ◌∷◌, ◌++◌}
use native.Mathlib.Omega.{arith}
use lib.Dec.{eqb, leb, ltb}
use lib.ListN.{length, get_or}
use borrow.Author.Tests.{lt-ltb, le-leb, leb-true, eqb-true, eqb-false, ne_eqb}
use Rattle.kit.specs.Choice.{when, both, either}
use Rattle.kit.specs.Limits.{most_windows}
use Rattle.kit.specs.Settings.{legal_settings}
use Rattle.kit.specs.Word.{half_at}
use Rattle.kit.specs.declared.answer.Refusal.TheVariants as answers
use Rattle.kit.specs.Answer.{number_of}
use Rattle.kit.proofs.Choice.{yes, no, cases, decide, never, both_left, both_right, both-join}
use Rattle.listing.specs.declared.line.Line.{Line}
use Rattle.listing.specs.Line.{header_of}
use Rattle.monitor.specs.Monitor.{bus_clock_of}
use Rattle.record.specs.declared.reading.Body.{Body}
use Rattle.record.specs.declared.reading.Body.TheVariants.{Settings, Memory, Window, Write, Read, Steps, Astray, Clock}
use Rattle.record.specs.declared.reading.Record.{Record}
use Rattle.record.specs.Reading.{Reading}
use Rattle.std.specs.Prelude.{Some, None}
use Rattle.record.specs.Mark.{Kind, CF, C2, MM, SW, WR, RD, ST, AR, WR2, RD2, ST2, unknown, letters, kind_of}
use Rattle.record.specs.Reading.{engine_there, body_of, found_of, reading_as, reading_of}
use Rattle.record.specs.Starts.{settings_at, starts_one, starts_two}
use Rattle.record.proofs.Whole.{whole, impossible}
use Rattle.session.specs.declared.chosen.Chosen.{Chosen}
use Rattle.session.specs.declared.chosen.Chosen.TheVariants.{Only}
use Rattle.session.specs.declared.Mode.{Mode}
use Rattle.session.specs.declared.Mode.TheVariants as modes
use Rattle.session.specs.declared.Session.{Session}
use Rattle.session.specs.declared.Effect.{Effect}
use Rattle.session.specs.Chosen.{chosen_at, two_of, called_of}
use Rattle.session.specs.Effect.{start_of, Lent, After, settings_line_of, bad_line_of}
use Rattle.session.specs.Stepping.{stops_of, accepted_of, step_line_of}
use Rattle.session.specs.Turn.{Turn, apply_of, stale_of, record_by, record_turn_of}
use Rattle.session.specs.Pass.{ready_in, Replay, record_on, handed, next_on, turn_by, turn_on}
use Rattle.session.proofs.Handing.{handed-kept}
use Rattle.session.proofs.Turns.{both-no}
use Rattle.whole.specs.Listing.{most_turns, at_start}
use Rattle.older.specs.Lines.{texts_of, opening_lines, record_lines, next_lines, turn_lines, cleared, lines_from, lines_of}
use Rattle.older.specs.Older.{silent}
use Rattle.older.specs.Former.{former_reading, former_record, former_turn, former_turn_lines, former_from, former_lines_of, Former}
use Rattle.older.proofs.Lines.{lines-turn, lines-stop}
use Rattle.older.proofs.Claims.{lines_are, opening-lines}

former-turn : (n : ℕ) (input : List ℕ) (r : Replay) → ready_in input true r ≡ true
    → former_from (suc n) input r ≡ former_turn_lines input r r.session.mode ++ former_from n input (cleared (former_turn input r r.session.mode))
unfolding former_from
former-turn n input r e = rw (e, former_from)

former-stop : (n : ℕ) (input : List ℕ) (r : Replay) → ready_in input true r ≡ false → former_from n input r ≡ []
unfolding former_from
former-stop zero input r e = refl
former-stop (suc n) input r e = rw (e, former_from)

-- ---- a record sets up two engines only by C2

abbrev sets_two : Body → Bool
sets_two (Settings two width beats) = two
sets_two (Memory address count) = false
sets_two (Window start count) = false
sets_two (Write offset value) = false
sets_two (Read offset) = false
sets_two (Steps count) = false
sets_two Astray = false
sets_two (Clock bits clock) = false

abbrev is_two : Kind → Bool
is_two CF = false
is_two C2 = true
is_two MM = false
is_two SW = false
is_two WR = false
is_two RD = false
is_two ST = false
is_two AR = false
is_two WR2 = false
is_two RD2 = false
is_two ST2 = false
is_two unknown = false

body-one : (s : List ℕ) (at : ℕ) (k : Kind) → is_two k ≡ false → sets_two (body_of s at k) ≡ false
body-one s at CF n = refl
body-one s at C2 n = absurd (never (sym n))
body-one s at MM n = refl
body-one s at SW n = refl
body-one s at WR n = refl
body-one s at RD n = refl
body-one s at ST n = refl
body-one s at AR n = refl
body-one s at WR2 n = cases (λ (b : Body). sets_two b ≡ false) (engine_there (get_or s (at + 6) 0)) (λ _. refl) (λ _. refl)
body-one s at RD2 n = cases (λ (b : Body). sets_two b ≡ false) (engine_there (get_or s (at + 6) 0)) (λ _. refl) (λ _. refl)
body-one s at ST2 n = cases (λ (b : Body). sets_two b ≡ false) (engine_there (get_or s (at + 6) 0)) (λ _. refl) (λ _. refl)
body-one s at unknown n = refl

kind-one : (m : ℕ) → eqb m (letters 67 50) ≡ false → is_two (kind_of m) ≡ false
unfolding kind_of
kind-one m n =
    let P : Kind → Type 0 = λ (k : Kind). is_two k ≡ false in
    cases P (eqb m (letters 67 70)) (λ _. refl)
    (λ _. cases P (eqb m (letters 67 50)) (λ e. absurd (never (sym n ∙ e)))
    (λ _. cases P (eqb m (letters 77 77)) (λ _. refl)
    (λ _. cases P (eqb m (letters 83 87)) (λ _. refl)
    (λ _. cases P (eqb m (letters 87 82)) (λ _. refl)
    (λ _. cases P (eqb m (letters 82 68)) (λ _. refl)
    (λ _. cases P (eqb m (letters 83 84)) (λ _. refl)
    (λ _. cases P (eqb m (letters 65 82)) (λ _. refl) (λ _. refl))))))))

former-one : (s : List ℕ) (at : ℕ) (first : Bool) (r : Record) (n : ℕ) → former_reading s at first ≡ Some (r, n) → sets_two r.body ≡ false
former-one s at first r n = go (eqb (half_at s at) (letters 67 50)) refl
  where
    go : (v : Bool) → eqb (half_at s at) (letters 67 50) ≡ v → when v None (reading_of s at first false) ≡ Some (r, n) → sets_two r.body ≡ false
    go true e f = absurd (impossible (cc))
    go false e f = ap sets_two (whole s at first false r n f).body_is ∙ body-one s at (kind_of (half_at s at)) (kind-one (half_at s at) e)

-- ---- one engine stays one

apply-only : (s : Session) (n position : ℕ) (input : List ℕ) (at : ℕ) (lent : Lent) (b : Body) → sets_two b ≡ false → s.chosen ≡ Only
    → (apply_of s n position input at lent b).effect.session.chosen ≡ Only
unfolding apply_of
apply-only s n position input at lent (Settings two width beats) one e =
    cases (λ (x : Effect). x.session.chosen ≡ Only) (legal_settings width beats) (λ _. ap chosen_at one) (λ _. e)
apply-only s n position input at lent (Memory address count) one e =
    cases (λ (a : After). a.effect.session.chosen ≡ Only) (ltb (length lent.memory) (address + count)) (λ _. e) (λ _. e)
apply-only s n position input at lent (Window start count) one e =
    cases (λ (a : After). a.effect.session.chosen ≡ Only) (leb most_windows s.windows) (λ _. e) (λ _. e)
apply-only s n position input at lent (Write offset value) one e = e
apply-only s n position input at lent (Read offset) one e = e
apply-only s n position input at lent (Steps count) one e = e
apply-only s n position input at lent Astray one e = e
apply-only s n position input at lent (Clock bits clock) one e =
    cases (λ (x : Effect). x.session.chosen ≡ Only) (ltb 7 bits) (λ _. e)
    (λ _. cases (λ (x : Effect). x.session.chosen ≡ Only) (eqb (bus_clock_of s.monitor s.engine.settings.width s.engine.settings.beats clock).number 0) (λ _. e) (λ _. e))

record-only : (s : Session) (position : ℕ) (input : List ℕ) (at : ℕ) (lent : Lent) (first : Bool) (v : Reading) → former_reading input at first ≡ v → s.chosen ≡ Only
    → (record_by s position input at lent v).effect.session.chosen ≡ Only
record-only s position input at lent first None f e = e
record-only s position input at lent first (Some (r, n)) f e =
    cases (λ (x : Turn). x.effect.session.chosen ≡ Only) (stale_of s.sequence r.sequence r.body) (λ _. e)
    (λ _. apply-only s r.sequence position input at lent r.body (former-one input at first r n f) e)

step-only : (s : Session) (left taken : ℕ) (lent : Lent) → s.chosen ≡ Only → (step_line_of s left taken lent).effect.session.chosen ≡ Only
step-only s left taken lent e =
    cases (λ (a : After). a.effect.session.chosen ≡ Only) (stops_of s.engine.phase left taken (accepted_of s.engine s.windows (length lent.memory))) (λ _. e) (λ _. e)

-- ---- turn by turn

module _ (t : List ℕ) (one : starts_two t ≡ false) where
  -- a C2 that is not at the start is refused now too
  reading-former : (at : ℕ) → reading_of t at (eqb (0 + at) 0) false ≡ former_reading t at (eqb (0 + at) 0)
  unfolding reading_of kind_of
  reading-former at = go (eqb (half_at t at) (letters 67 50)) refl
    where
      late : (n : ℕ) → eqb (half_at t n) (letters 67 50) ≡ true → reading_as t n (eqb (0 + n) 0) C2 ≡ None
      late zero e = short (leb (0 + 10) (length t)) refl
        where
          short : (v : Bool) → leb (0 + 10) (length t) ≡ v → when v (found_of t 0 10 (body_of t 0 C2)) None ≡ None
          short true f = absurd (never (sym one ∙ both-join (le-leb 2 (length t) (omega (arith, leb-true (0 + 10) (length t) f))) e))
          short false f = refl
      late (suc n) e = ap (λ (v : Bool). when v (when (leb (suc n + 10) (length t)) (found_of t (suc n) 10 (body_of t (suc n) C2)) None) None) (ne_eqb (0 + suc n) 0 (λ z. omega (arith, z)))

      go : (v : Bool) → eqb (half_at t at) (letters 67 50) ≡ v → reading_of t at (eqb (0 + at) 0) false ≡ when v None (reading_of t at (eqb (0 + at) 0) false)
      go true e = ap (λ (m : ℕ). reading_as t at (eqb (0 + at) 0) (kind_of m)) (eqb-true (half_at t at) (letters 67 50) e) ∙ late at e
      go false e = refl

  -- the same turn, and one engine after it
  record Turned (r : Replay) (mode : Mode) : Type 0 where
    lines : turn_lines 0 t r mode ≡ former_turn_lines t r mode
    turn : turn_by 0 t r mode ≡ former_turn t r mode
    only : (turn_by 0 t r mode).session.chosen ≡ Only

  turned : (r : Replay) (mode : Mode) → r.session.mode ≡ mode → r.session.chosen ≡ Only → Turned r mode
  unfolding turn_on
  turned r modes.Start m e = record { lines = refl; turn = sym (ap (turn_by 0 t r) m); only = e }
  turned r modes.Records m e =
      record {
        lines = ap (next_lines 0 t) hand ∙ ap (λ (x : Turn). record_lines x.effect) same;
        turn = ap (next_on 0 t) hand ∙ ap (record_on r) same;
        only = ap (λ (x : Replay). (next_on 0 t x).session.chosen) hand ∙ ap (λ (x : Turn). x.effect.session.chosen) same
            ∙ record-only r.session (0 + r.at) t r.at r.lent (eqb (0 + r.at) 0) (former_reading t r.at (eqb (0 + r.at) 0)) refl e;
      }
    where
      hand : handed t r ≡ r
      hand = handed-kept t r (ap (λ (c : Chosen). called_of c t r.at) e)

      same : record_turn_of r.session (0 + r.at) t r.at r.lent ≡ former_record t r
      same = ap (record_by r.session (0 + r.at) t r.at r.lent) (ap (λ (c : Chosen). reading_of t r.at (eqb (0 + r.at) 0) (two_of c)) e ∙ reading-former r.at)
  turned r (modes.Steps left taken) m e = record { lines = refl; turn = sym (ap (turn_by 0 t r) m); only = step-only r.session left taken r.lent e }
  turned r modes.Over m e = record { lines = refl; turn = sym (ap (turn_by 0 t r) m); only = e }

  lines-one : (k : ℕ) (r : Replay) → r.session.chosen ≡ Only → lines_from k 0 t r ≡ former_from k t r
  unfolding lines_from former_from turn_on
  lines-one zero r e = refl
  lines-one (suc k) r e =
      let x = turned r r.session.mode refl e in
      ⊎_elim {C = lines_from (suc k) 0 t r ≡ former_from (suc k) t r}
      (λ f. lines-turn k 0 t r f
      ∙ ap₂ ◌++◌ x.lines (lines-one k (cleared (turn_on 0 t r)) x.only ∙ ap (λ (y : Replay). former_from k t (cleared y)) x.turn)
      ∙ sym (former-turn k t r f))
      (λ f. lines-stop (suc k) 0 t r f ∙ sym (former-stop (suc k) t r f)) (decide (ready_in t true r))

  opening-one : settings_at t 0 ≡ starts_one t
  opening-one = go (leb 2 (length t)) (eqb (half_at t 0) (letters 67 70)) (eqb (half_at t 0) (letters 67 50)) one
    where
      go : (v a b : Bool) → both v b ≡ false → both v (either a b) ≡ both v a
      go true true b e = refl
      go true false b e = e
      go false a b e = refl

  lines-former : lines_of t ≡ former_lines_of t
  lines-former = go (eqb (length t) 0) refl
    where
      go : (v : Bool) → eqb (length t) 0 ≡ v → lines_of t ≡ when v [] (opening_lines start_of (starts_one t) ++ former_from (most_turns * length t) t (silent 64))
      go true e = lines-stop (suc (most_turns * length t)) 0 t at_start (ap (λ (n : ℕ). ltb 0 (n - 0)) (eqb-true (length t) 0 e))
      go false e =
          opening-lines t (let h = eqb-false (length t) 0 e in omega (arith, h))
          ∙ ap₂ (λ (v : Bool) (ls : List Line). opening_lines start_of v ++ ls) opening-one (lines-one (most_turns * length t) (silent 64) refl)

-- ---- a trace that starts with C2

module _ (t : List ℕ) (two : starts_two t ≡ true) where
  long : 2 ≤ length t
  long = leb-true 2 (length t) (both_left (leb 2 (length t)) (eqb (half_at t 0) (letters 67 50)) two)

  marked : eqb (half_at t 0) (letters 67 50) ≡ true
  marked = both_right (leb 2 (length t)) (eqb (half_at t 0) (letters 67 50)) two

  other : starts_one t ≡ false
  other = ap (both (leb 2 (length t))) (ap (λ (m : ℕ). eqb m (letters 67 70)) (eqb-true (half_at t 0) (letters 67 50) marked)) ∙ both-no (leb 2 (length t))

  refused-lines : former_lines_of t ≡ settings_line_of 0 4 64 ∷ bad_line_of 0 (number_of answers.Record) 0 ∷ []
  refused-lines =
      let k : ℕ = most_turns * length t - 1 in
      let turns : most_turns * length t ≡ suc k = omega (arith, long) in
      let r = silent 64 in
      let read : former_reading t 0 true ≡ None = sym (yes _ marked refl) in
      sym (no [] (ne_eqb (length t) 0 (λ z. omega (arith, long, z))) refl)
      ∙ ap (λ (v : Bool). opening_lines start_of v ++ former_from (most_turns * length t) t r) other
      ∙ ap (λ (ls : List Line). settings_line_of 0 4 64 ∷ ls)
      (ap (λ (j : ℕ). former_from j t r) turns ∙ former-turn k t r (lt-ltb 0 (length t - 0) (omega (arith, long)))
      ∙ ap (λ (v : Reading). record_lines (record_by r.session (0 + 0) t 0 r.lent v).effect ++ former_from k t (cleared (record_on r (record_by r.session (0 + 0) t 0 r.lent v)))) read
      ∙ ap (λ (ls : List Line). bad_line_of 0 (number_of answers.Record) 0 ∷ ls) (former-stop k t (cleared (record_on r (record_by r.session (0 + 0) t 0 r.lent None))) refl))

pub former : Former
former = record {
  same = λ t one. lines_are t ∙ ap (λ (ls : List Line). header_of ++ texts_of ls) (lines-former t one);
  refused = λ t two. ap (λ (ls : List Line). header_of ++ texts_of ls) (refused-lines t two);
}
