-- The claims of specs/Older.antt.
use mathlib.Core.Path.{◌≡◌, refl, sym, ap, ◌∙◌}
use Prim.Native.Nat.{ℕ, suc, ◌+◌, ◌-◌, ◌*◌, ◌≤◌, ◌<◌}
use mathlib.Core.Bool.{Bool, true, false}
use mathlib.Core.List.{List, [], ◌∷◌, ◌++◌, map, append-nil}
use native.Mathlib.Omega.{arith}
use lib.Dec.{eqb, leb}
use lib.ListN.{length, length-append}
use borrow.Author.Tests.{lt-ltb, le-leb, leb-true, eqb-true}
use Rattle.kit.specs.Choice.{when, both}
use Rattle.kit.specs.declared.answer.Refusal.TheVariants as answers
use Rattle.kit.specs.Answer.{number_of}
use Rattle.kit.specs.Settings.{legal_width, legal_beats, legal_settings}
use Rattle.kit.specs.Word.{half_at, word_at}
use Rattle.kit.proofs.Choice.{yes, no, both_left, both_right, both-join, never}
use Rattle.listing.specs.declared.line.Line.{Line}
use Rattle.listing.specs.Line.{header_of}
use Rattle.record.specs.declared.reading.Body.TheVariants.{Settings}
use Rattle.record.specs.Reading.{Reading}
use Rattle.std.specs.Prelude.{Some, None}
use Rattle.record.specs.Mark.{CF, letters, kind_of}
use Rattle.record.specs.Reading.{found_of, body_of, reading_as, reading_of}
use Rattle.record.specs.Starts.{settings_mark, settings_at, starts_with, starts_one, starts_two, older_settings, converted_of}
use Rattle.record.proofs.Starting.{starts}
use Rattle.state.specs.State.{fresh_of}
use Rattle.session.specs.declared.chosen.Chosen.TheVariants.{Only}
use Rattle.session.specs.declared.Mode.TheVariants.{Records, Over}
use Rattle.session.specs.declared.Session.{Session}
use Rattle.session.specs.Effect.{start_with, start_of, with_engine, with_chosen, with_mode, settings_line_of, bad_line_of, bad_of, after, lend, Lent}
use Rattle.session.specs.Turn.{Turn, turn_as, apply_of, record_by, record_turn_of}
use Rattle.session.specs.Pass.{replay_as, turn_on}
use Rattle.session.proofs.Turns.{both-no}
use Rattle.whole.specs.Listing.{start_memory, start_windows, most_turns, at_start, listing_of}
use Rattle.whole.proofs.Parts.{seen_in}
use Rattle.older.specs.Lines.{texts_of, opening_lines, record_lines, lines_from, lines_of}
use Rattle.older.specs.Older.{silent, records_of, carries_zero, older_lines_of, grown, Older}
use Rattle.older.proofs.Lines.{lines-turn, lines-stop, list-lines, lines-enough, whole, lines-later}
use Rattle.older.proofs.Grown.{lines-grown}

pub lines_are : (t : List ℕ) → listing_of t ≡ header_of ++ texts_of (lines_of t)
unfolding listing_of
lines_are t = ap (λ (l : List ℕ). header_of ++ l) (list-lines (suc (most_turns * length t)) t at_start)

-- what comes before the first record, and then the records
pub opening-lines : (t : List ℕ) → 0 < length t → lines_of t ≡ opening_lines start_of (settings_at t 0) ++ records_of 64 t
unfolding turn_on
opening-lines t some = lines-turn (most_turns * length t) 0 t at_start (lt-ltb 0 (length t - 0) (omega arith))

abbrev lent : Lent
lent = lend start_memory start_windows start_of.engine

-- a record's lines, and those that come after it
abbrev on : ℕ → List ℕ → Turn → List Line
on k t x = record_lines x.effect ++ lines_from k 0 t (replay_as x.effect.session x.at x.lent [])

first-lines : (k : ℕ) (t : List ℕ) (beats : ℕ) → 0 < length t
    → lines_from (suc k) 0 t (silent beats) ≡ on k t (record_turn_of (with_mode (start_with beats) Records) (0 + 0) t 0 lent)
unfolding turn_on
first-lines k t beats some = lines-turn k 0 t (silent beats) (lt-ltb 0 (length t - 0) (omega arith))

-- a trace that starts with neither CF nor C2 starts with no mark that settings have
not-started : (t : List ℕ) → settings_at t 0 ≡ false → (m : ℕ) → settings_mark m ≡ true → starts_with m t ≡ false
not-started t plain m e = go (starts_with m t) refl
  where
    go : (v : Bool) → starts_with m t ≡ v → starts_with m t ≡ false
    go true f =
        absurd (never (sym plain
        ∙ both-join (le-leb (0 + 2) (length t) (omega (arith, leb-true 2 (length t) (both_left (leb 2 (length t)) (eqb (half_at t 0) m) f))))
        (ap settings_mark (eqb-true (half_at t 0) m (both_right (leb 2 (length t)) (eqb (half_at t 0) m) f)) ∙ e)))
    go false f = f

-- ---- a converted trace

module _ (t : List ℕ) where
  abbrev trace : List ℕ
  trace = whole older_settings t

  long : length trace ≡ 10 + length t
  long = omega (arith, length-append older_settings (t ++ []), length-append t [])

  -- its first record, whatever the settings before it
  put-turn : (beats : ℕ) → record_turn_of (with_mode (start_with beats) Records) (0 + 0) trace 0 lent
      ≡ record { effect = record { session = with_mode (start_with 16) Records; line = settings_line_of 0 4 16 }; at = 10; lent = lent }
  unfolding apply_of legal_width legal_beats
  put-turn beats = ap (record_by (with_mode (start_with beats) Records) (0 + 0) trace 0 lent) (starts.put (t ++ []))

  put-lines : (k : ℕ) → lines_from (suc k) 0 trace (silent 64) ≡ settings_line_of 0 4 16 ∷ lines_from k 0 trace (seen_in (length older_settings) [] (silent 16))
  put-lines k = first-lines k trace 64 (omega (arith, long)) ∙ ap (on k trace) (put-turn 64)

  later-lines : settings_at t 0 ≡ false → (k : ℕ) → most_turns * length t ≤ k
      → lines_from k 0 trace (seen_in (length older_settings) [] (silent 16)) ≡ map (grown 10) (records_of 16 t)
  later-lines plain k h =
      let n : ℕ = most_turns * length t in
      let more : n + (k - n) ≡ k = omega arith in
      lines-later older_settings t k (silent 16) (omega arith) ∙ lines-grown t plain 10 (omega arith) k (silent 16)
      ∙ ap (λ (j : ℕ). map (grown 10) (lines_from j 0 t (silent 16))) (sym more)
      ∙ ap (map (grown 10)) (lines-enough n (k - n) t (silent 16) (omega arith))

  converted-lines : settings_at t 0 ≡ false → lines_of trace ≡ settings_line_of 0 4 16 ∷ map (grown 10) (older_lines_of t)
  converted-lines plain =
      let k : ℕ = most_turns * length trace - 1 in
      let turns : most_turns * length trace ≡ suc k = omega (arith, long) in
      let told : settings_at trace 0 ≡ true = starts.settled older_settings (t ++ []) 0 (omega arith) in
      let one = not-started t plain (letters 67 70) refl in
      let nonzero : carries_zero t ≡ false = ap (λ (v : Bool). both v (both (leb 10 (length t)) (eqb (word_at t 2) 0))) one in
      let single = not-started t plain (letters 67 50) refl in
      opening-lines trace (omega (arith, long))
      ∙ ap (λ (v : Bool). opening_lines start_of v ++ records_of 64 trace) told
      ∙ ap (λ (j : ℕ). lines_from j 0 trace (silent 64)) turns ∙ put-lines k
      ∙ ap (λ (ls : List Line). settings_line_of 0 4 16 ∷ ls) (later-lines plain k (omega (arith, long)) ∙ ap (map (grown 10)) (no _ single (no _ nonzero refl)))

  same-trace : settings_at t 0 ≡ false → converted_of t ≡ trace
  same-trace plain = sym (no _ plain (ap (λ (l : List ℕ). older_settings ++ l) (append-nil t)))

-- ---- a trace that starts with CF

module _ (t : List ℕ) (marked : starts_one t ≡ true) where
  some : 2 ≤ length t
  some = leb-true 2 (length t) (both_left (leb 2 (length t)) (eqb (half_at t 0) (letters 67 70)) marked)

  mark : half_at t 0 ≡ letters 67 70
  mark = eqb-true (half_at t 0) (letters 67 70) (both_right (leb 2 (length t)) (eqb (half_at t 0) (letters 67 70)) marked)

  settled : settings_at t 0 ≡ true
  settled = both-join (le-leb (0 + 2) (length t) (omega (arith, some))) (ap settings_mark mark)

  single : starts_two t ≡ false
  single = ap (both (leb 2 (length t))) (ap (λ (m : ℕ). eqb m (letters 67 50)) mark) ∙ both-no (leb 2 (length t))

  read-settings : reading_of t 0 true false ≡ reading_as t 0 true CF
  unfolding reading_of kind_of
  read-settings = ap (λ (m : ℕ). reading_as t 0 true (kind_of m)) mark

  module _ (k : ℕ) where
    abbrev before : ℕ → Session
    before beats = with_mode (start_with beats) Records

    abbrev by : ℕ → Reading → List Line
    by beats v = on k t (record_by (before beats) (0 + 0) t 0 lent v)

    -- a `bad` line is the last, and says nothing of the settings
    bad-on : (beats answer at : ℕ) → on k t (turn_as (after (bad_of (before beats) answer (0 + 0)) lent) at) ≡ bad_line_of 0 answer (0 + 0) ∷ []
    bad-on beats answer at = ap (λ (ls : List Line). bad_line_of 0 answer (0 + 0) ∷ ls) (lines-stop k 0 t (replay_as (with_mode (before beats) Over) at lent []) refl)

    -- a CF has its own settings, and no sequence number is below it
    by-settings : (n width beats : ℕ) → by 64 (Some ((record { sequence = n; body = Settings false width beats }), 10)) ≡ by 16 (Some ((record { sequence = n; body = Settings false width beats }), 10))
    unfolding apply_of
    by-settings n width beats =
        ap (on k t) (sym (no _ (both-no (leb n 0)) refl)) ∙ go (legal_settings width beats) ∙ ap (on k t) (no _ (both-no (leb n 0)) refl)
      where
        taken : ℕ → Bool → Turn
        taken was v =
            turn_as
            (after
            (when v (record { session = with_chosen (with_engine (before was) n (fresh_of (record { width = width; beats = beats }))) Only; line = settings_line_of n width beats })
            (bad_of (before was) (number_of answers.Settings) (0 + 0)))
            lent)
            10

        go : (v : Bool) → on k t (taken 64 v) ≡ on k t (taken 16 v)
        go true = refl
        go false = bad-on 64 (number_of answers.Settings) 10 ∙ sym (bad-on 16 (number_of answers.Settings) 10)

    by_first : by 64 (reading_of t 0 true false) ≡ by 16 (reading_of t 0 true false)
    by_first = ap (by 64) read-settings ∙ go (leb (0 + 10) (length t)) ∙ ap (by 16) (sym read-settings)
      where
        go : (v : Bool) → by 64 (when v (found_of t 0 10 (body_of t 0 CF)) None) ≡ by 16 (when v (found_of t 0 10 (body_of t 0 CF)) None)
        go true = by-settings (word_at t 2) (half_at t 6) (half_at t 8)
        go false = bad-on 64 (number_of answers.Record) 0 ∙ sym (bad-on 16 (number_of answers.Record) 0)

  copied-lines : carries_zero t ≡ false → lines_of t ≡ older_lines_of t
  copied-lines nonzero =
      let k : ℕ = most_turns * length t - 1 in
      let turns : most_turns * length t ≡ suc k = omega (arith, some) in
      opening-lines t (omega (arith, some))
      ∙ ap (λ (v : Bool). opening_lines start_of v ++ records_of 64 t) settled
      ∙ ap (λ (j : ℕ). lines_from j 0 t (silent 64)) turns
      ∙ first-lines k t 64 (omega (arith, some)) ∙ by_first k ∙ sym (first-lines k t 16 (omega (arith, some)))
      ∙ ap (λ (j : ℕ). lines_from j 0 t (silent 16)) (sym turns)
      ∙ no _ single (no _ nonzero refl)

pub older : Older
older = record {
  lines = lines_are;
  defaulted = λ t some plain. opening-lines t some ∙ ap (λ (v : Bool). opening_lines start_of v ++ records_of 64 t) plain;
  converted = λ t plain. ap listing_of (same-trace t plain) ∙ lines_are (trace t) ∙ ap (λ (ls : List Line). header_of ++ texts_of ls) (converted-lines t plain);
  copied = λ t marked nonzero. ap listing_of (sym (yes _ (settled t marked) refl)) ∙ lines_are t ∙ ap (λ (ls : List Line). header_of ++ texts_of ls) (copied-lines t marked nonzero);
}
