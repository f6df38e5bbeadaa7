-- A trace that starts with neither CF nor C2, d bytes further on: the same turns, and the same lines but for the position on a `bad`.
use mathlib.Core.Path.{◌≡◌, refl, sym, ap, ap₂, ◌∙◌}
use mathlib.Core.Logic.{⊎_elim}
use Prim.Native.Nat.{ℕ, zero, suc, ◌+◌, ◌≤◌, ◌<◌}
use mathlib.Core.Bool.{Bool, true, false}
use mathlib.Core.List.{List, [], ◌∷◌, ◌++◌, map, map-append}
use native.Mathlib.Omega.{arith}
use lib.Dec.{eqb, leb, ltb}
use lib.ListN.{length, get_or, take}
use borrow.Author.Tests.{leb-false, ne_eqb}
use Rattle.kit.specs.Choice.{when, both}
use Rattle.kit.specs.Limits.{most_windows}
use Rattle.kit.specs.Settings.{legal_settings}
use Rattle.kit.specs.Word.{half_at}
use Rattle.kit.specs.declared.answer.Refusal.TheVariants as answers
use Rattle.kit.specs.Answer.{number_of}
use Rattle.kit.proofs.Choice.{yes, no, cases, decide}
use Rattle.listing.specs.declared.line.Line.{Line}
use Rattle.listing.specs.declared.word.Word.TheVariants as words
use Rattle.monitor.specs.Monitor.{bus_clock_of}
use Rattle.reads.specs.Read.{read_of}
use Rattle.record.specs.declared.reading.Body.{Body}
use Rattle.record.specs.declared.reading.Body.TheVariants.{Settings, Memory, Window, Write, Read, Steps, Astray, Clock}
use Rattle.record.specs.Reading.{Reading}
use Rattle.std.specs.Prelude.{Some, None}
use Rattle.record.specs.Mark.{Kind, CF, C2, MM, SW, WR, RD, ST, AR, unknown, letters, kind_of, of_trace}
use Rattle.record.specs.Reading.{size_of, reading_as, reading_of}
use Rattle.record.proofs.Readings.{short}
use Rattle.record.specs.Starts.{settings_mark, settings_at}
use Rattle.steps.specs.Report.{report_of}
use Rattle.steps.specs.Step.{advance_of}
use Rattle.memory.specs.Windows.{windows_of}
use Rattle.session.specs.declared.Mode.{Mode}
use Rattle.session.specs.declared.Mode.TheVariants as modes
use Rattle.session.specs.declared.Session.{Session}
use Rattle.session.specs.declared.Effect.{Effect}
use Rattle.session.specs.Effect.{Lent, After, after, under_way, bad_of}
use Rattle.session.specs.Stepping.{used_of, event_words, stops_of, accepted_of, step_line_of}
use Rattle.session.specs.Turn.{Turn, turn_as, apply_of, stale_of, record_by, record_turn_of}
use Rattle.session.specs.Chosen.{two_of, called_of}
use Rattle.session.specs.Pass.{ready_in, Replay, swapped, next_on, turn_by, turn_on}
use Rattle.older.specs.Lines.{record_lines, next_lines, turn_lines, cleared, lines_from}
use Rattle.older.specs.Older.{is_bad, grown}
use Rattle.older.proofs.Lines.{lines-turn, lines-stop}

-- ---- lines

plain-line : (d : ℕ) (l : Line) → is_bad l.word ≡ false → l ≡ grown d l
plain-line d l e = no _ e refl

abbrev grown_effect : ℕ → Effect → Effect
grown_effect d e = record { session = e.session; line = grown d e.line }

abbrev grown_after : ℕ → After → After
grown_after d a = after (grown_effect d a.effect) a.lent

abbrev grown_turn : ℕ → Turn → Turn
grown_turn d t = record { effect = grown_effect d t.effect; at = t.at; lent = t.lent }

plain-effect : (d : ℕ) (e : Effect) → is_bad e.line.word ≡ false → e ≡ grown_effect d e
plain-effect d e k = ap (λ (l : Line). record { session = e.session; line = l }) (plain-line d e.line k)

-- ---- records, whose position is p or d + p

module _ (s : Session) (d p : ℕ) (input : List ℕ) (at : ℕ) (lent : Lent) where
  -- refused, or as it is
  refused-grown : (v : Bool) (answer : ℕ) (e : Effect) {e' : Effect} → e' ≡ grown_effect d e → when v (bad_of s answer (d + p)) e' ≡ grown_effect d (when v (bad_of s answer p) e)
  refused-grown true answer e k = refl
  refused-grown false answer e k = k

  good-grown : (v : Bool) (answer : ℕ) (e : Effect) → is_bad e.line.word ≡ false → when v e (bad_of s answer (d + p)) ≡ grown_effect d (when v e (bad_of s answer p))
  good-grown true answer e k = plain-effect d e k
  good-grown false answer e k = refl

  after-grown : (v : Bool) (answer : ℕ) (a : After) → is_bad a.effect.line.word ≡ false
      → when v (after (bad_of s answer (d + p)) lent) a ≡ grown_after d (when v (after (bad_of s answer p) lent) a)
  after-grown true answer a k = refl
  after-grown false answer a k = ap (λ (e : Effect). after e a.lent) (plain-effect d a.effect k)

  apply-grown : (n : ℕ) (b : Body) → apply_of s n (d + p) input at lent b ≡ grown_after d (apply_of s n p input at lent b)
  unfolding apply_of
  apply-grown n (Settings two width beats) = ap (λ (e : Effect). after e lent) (good-grown (legal_settings width beats) (number_of answers.Settings) _ refl)
  apply-grown n (Memory address count) = after-grown (ltb (length lent.memory) (address + count)) (number_of answers.MemoryEnd) _ refl
  apply-grown n (Window start count) = after-grown (leb most_windows s.windows) (number_of answers.WindowCount) _ refl
  apply-grown n (Write offset value) = refl
  apply-grown n (Read offset) =
      let a = apply_of s n p input at lent (Read offset) in
      ap (λ (e : Effect). after e lent) (plain-effect d a.effect (cases (λ (l : Line). is_bad l.word ≡ false) (eqb (read_of s.engine offset).answer 0) (λ _. refl) (λ _. refl)))
  apply-grown n (Steps count) = refl
  apply-grown n Astray = refl
  apply-grown n (Clock bits clock) =
      let c = bus_clock_of s.monitor s.engine.settings.width s.engine.settings.beats clock in
      ap (λ (e : Effect). after e lent) (refused-grown (ltb 7 bits) (number_of answers.Clock) _ (good-grown (eqb c.number 0) c.number _ refl))

  record-grown : (v : Reading) → record_by s (d + p) input at lent v ≡ grown_turn d (record_by s p input at lent v)
  record-grown None = refl
  record-grown (Some (r, next)) = go (stale_of s.sequence r.sequence r.body)
    where
      refused : ℕ → Turn
      refused q = turn_as (after (bad_of s (number_of answers.Sequence) q) lent) at

      go : (v : Bool) → when v (refused (d + p)) (turn_as (apply_of s r.sequence (d + p) input at lent r.body) next)
          ≡ grown_turn d (when v (refused p) (turn_as (apply_of s r.sequence p input at lent r.body) next))
      go true = refl
      go false = ap (λ (a : After). turn_as a next) (apply-grown r.sequence r.body)

-- ---- steps print no `bad`

word_good : (n : ℕ) → is_bad (get_or event_words n words.Stop) ≡ false
word_good zero = refl
word_good (suc zero) = refl
word_good (suc (suc zero)) = refl
word_good (suc (suc (suc zero))) = refl
word_good (suc (suc (suc (suc zero)))) = refl
word_good (suc (suc (suc (suc (suc zero))))) = refl
word_good (suc (suc (suc (suc (suc (suc n)))))) = refl

step-good : (s : Session) (left taken : ℕ) (lent : Lent) → is_bad (step_line_of s left taken lent).effect.line.word ≡ false
step-good s left taken lent =
    cases (λ (a : After). is_bad a.effect.line.word ≡ false) (stops_of s.engine.phase left taken (accepted_of s.engine s.windows (length lent.memory)))
    (λ _. refl) (λ _. word_good (report_of (advance_of s.engine lent.memory (windows_of (take (used_of s.windows) lent.windows))).event).number)

-- ---- turns

module _ (t : List ℕ) (plain : settings_at t 0 ≡ false) where
  -- a mark of settings is all there is, so no record is whole
  short-settings : settings_mark (half_at t 0) ≡ true → (k : Kind) → reading_as t 0 true k ≡ reading_as t 0 false k
  short-settings e k = sym (short t 0 true k few) ∙ short t 0 false k few
    where
      few : length t < 0 + size_of t 0 k
      few = omega (arith, leb-false (0 + 2) (length t) (sym (ap (both (leb (0 + 2) (length t))) e ∙ yes-itself (leb (0 + 2) (length t))) ∙ plain))
        where
          yes-itself : (v : Bool) → both v true ≡ v
          yes-itself true = refl
          yes-itself false = refl

  -- whether its first record is taken as the first does not matter
  first-same : (two : Bool) → reading_of t 0 true two ≡ reading_of t 0 false two
  unfolding reading_of kind_of
  first-same two =
      cases Same (eqb (half_at t 0) (letters 67 70)) (λ e. short-settings (sym (yes _ e refl)) (of_trace two CF))
      (λ n. cases Same (eqb (half_at t 0) (letters 67 50)) (λ e. short-settings (sym (no true n (sym e))) (of_trace two C2))
      (λ _. cases Same (eqb (half_at t 0) (letters 77 77)) (λ _. by MM two refl refl)
      (λ _. cases Same (eqb (half_at t 0) (letters 83 87)) (λ _. by SW two refl refl)
      (λ _. cases Same (eqb (half_at t 0) (letters 87 82)) (λ _. by WR two refl refl)
      (λ _. cases Same (eqb (half_at t 0) (letters 82 68)) (λ _. by RD two refl refl)
      (λ _. cases Same (eqb (half_at t 0) (letters 83 84)) (λ _. by ST two refl refl)
      (λ _. cases Same (eqb (half_at t 0) (letters 65 82)) (λ _. by AR two refl refl) (λ _. by unknown two refl refl))))))))
    where
      Same : Kind → Type 0
      Same k = reading_as t 0 true (of_trace two k) ≡ reading_as t 0 false (of_trace two k)

      by : (k : Kind) (b : Bool) → reading_as t 0 true (of_trace true k) ≡ reading_as t 0 false (of_trace true k) → reading_as t 0 true k ≡ reading_as t 0 false k
          → reading_as t 0 true (of_trace b k) ≡ reading_as t 0 false (of_trace b k)
      by k true p q = p
      by k false p q = q

  read_same : (d at : ℕ) (two : Bool) → 1 ≤ d → reading_of t at (eqb (d + at) 0) two ≡ reading_of t at (eqb (0 + at) 0) two
  read_same d zero two h = ap (λ (v : Bool). reading_of t 0 v two) (ne_eqb (d + 0) 0 (λ e. omega (arith, e))) ∙ sym (first-same two)
  read_same d (suc n) two h =
      ap (λ (v : Bool). reading_of t (suc n) v two) (ne_eqb (d + suc n) 0 (λ e. omega (arith, e)) ∙ sym (ne_eqb (0 + suc n) 0 (λ e. omega (arith, e))))

  module _ (d : ℕ) (some : 1 ≤ d) where
    turn-grown : (s : Session) (at : ℕ) (lent : Lent) → record_turn_of s (d + at) t at lent ≡ grown_turn d (record_turn_of s (0 + at) t at lent)
    turn-grown s at lent =
        let place : d + at ≡ d + (0 + at) = omega arith in
        ap₂ (λ (p : ℕ) (v : Reading). record_by s p t at lent v) place (read_same d at (two_of s.chosen) some) ∙ record-grown s d (0 + at) t at lent (reading_of t at (eqb (0 + at) 0) (two_of s.chosen))

    lines-grown-next : (r : Replay) → next_lines d t r ≡ map (grown d) (next_lines 0 t r)
    lines-grown-next r =
        ap (λ (x : Turn). record_lines x.effect) (turn-grown r.session r.at r.lent) ∙ told (record_turn_of r.session (0 + r.at) t r.at r.lent).effect
      where
        told : (e : Effect) → record_lines (grown_effect d e) ≡ map (grown d) (record_lines e)
        told e = go (under_way e.session.mode)
          where
            go : (v : Bool) → when v [] (grown d e.line ∷ []) ≡ map (grown d) (when v [] (e.line ∷ []))
            go true = refl
            go false = refl

    lines-grown-turn : (r : Replay) (mode : Mode) → turn_lines d t r mode ≡ map (grown d) (turn_lines 0 t r mode)
    lines-grown-turn r modes.Start = cases (λ (ls : List Line). ls ≡ map (grown d) ls) (settings_at t r.at) (λ _. refl) (λ _. refl)
    lines-grown-turn r modes.Records = cases (λ (x : Replay). next_lines d t x ≡ map (grown d) (next_lines 0 t x)) (called_of r.session.chosen t r.at) (λ _. lines-grown-next (swapped r)) (λ _. lines-grown-next r)
    lines-grown-turn r (modes.Steps left taken) =
        ap (λ (l : Line). l ∷ []) (plain-line d (step_line_of r.session left taken r.lent).effect.line (step-good r.session left taken r.lent))
    lines-grown-turn r modes.Over = refl

    turn-same : (r : Replay) → cleared (turn_on d t r) ≡ cleared (turn_on 0 t r)
    unfolding turn_on
    turn-same r = go r.session.mode
      where
        go : (mode : Mode) → cleared (turn_by d t r mode) ≡ cleared (turn_by 0 t r mode)
        go modes.Start = refl
        go modes.Records =
            cases (λ (x : Replay). cleared (next_on d t x) ≡ cleared (next_on 0 t x)) (called_of r.session.chosen t r.at) (λ _. next (swapped r)) (λ _. next r)
          where
            next : (x : Replay) → cleared (next_on d t x) ≡ cleared (next_on 0 t x)
            next x = ap (λ (y : Turn). cleared (record { session = y.effect.session; at = y.at; lent = y.lent; text = [] })) (turn-grown x.session x.at x.lent)
        go (modes.Steps left taken) = refl
        go modes.Over = refl

    pub lines-grown : (k : ℕ) (r : Replay) → lines_from k d t r ≡ map (grown d) (lines_from k 0 t r)
    unfolding lines_from
    lines-grown zero r = refl
    lines-grown (suc k) r =
        ⊎_elim {C = lines_from (suc k) d t r ≡ map (grown d) (lines_from (suc k) 0 t r)}
        (λ e. lines-turn k d t r e
        ∙ ap₂ ◌++◌ (lines-grown-turn r r.session.mode) (ap (lines_from k d t) (turn-same r) ∙ lines-grown k (cleared (turn_on 0 t r)))
        ∙ sym (map-append (grown d) (turn_lines 0 t r r.session.mode) (lines_from k 0 t (cleared (turn_on 0 t r))))
        ∙ ap (map (grown d)) (sym (lines-turn k 0 t r e)))
        (λ e. lines-stop (suc k) d t r e ∙ ap (map (grown d)) (sym (lines-stop (suc k) 0 t r e)))
        (decide (ready_in t true r))
