-- Laws of the lines: they are the listing's text, a part's are the whole's, and as many turns as the measure says are enough.
use mathlib.Core.Path.{◌≡◌, refl, sym, ap, ap₂, subst, ◌∙◌}
use mathlib.Core.Logic.{⊎_elim}
use Prim.Native.Nat.{ℕ, zero, suc, ◌+◌, ◌-◌, ◌≤◌}
use mathlib.Core.Bool.{Bool, true, false}
use mathlib.Core.List.{List, [], ◌∷◌, ◌++◌, append_assoc, append-nil}
use native.Mathlib.Omega.{arith}
use lib.ListN.{length, length-append}
use Rattle.kit.specs.Choice.{when}
use Rattle.kit.proofs.Choice.{decide, never}
use Rattle.listing.specs.declared.line.Line.{Line}
use Rattle.listing.specs.Line.{line_of}
use Rattle.record.specs.Starts.{settings_at}
use Rattle.session.specs.declared.Mode.{Mode}
use Rattle.session.specs.declared.Mode.TheVariants as modes
use Rattle.session.specs.Chosen.{called_of}
use Rattle.session.specs.Effect.{under_way, opening_of}
use Rattle.session.specs.Stepping.{step_line_of}
use Rattle.session.specs.Turn.{Turn, record_turn_of}
use Rattle.session.specs.Pass.{ready_of, ready_in, Replay, swapped, next_on, turn_by, turn_on, turns_of}
use Rattle.whole.specs.Listing.{list_from}
use Rattle.whole.proofs.Listing.{list-turn, list-stop}
use Rattle.whole.proofs.Measure.{measure_of, turn-less}
use Rattle.whole.proofs.Parts.{seen_in, starts-part, called-part, reading-turn, on-part, turns-within}
use Rattle.older.specs.Lines.{texts_of, opening_lines, record_lines, next_lines, turn_lines, cleared, lines_from}

-- ---- turn by turn

pub lines-turn : (n base : ℕ) (input : List ℕ) (r : Replay) → ready_in input true r ≡ true
    → lines_from (suc n) base input r ≡ turn_lines base input r r.session.mode ++ lines_from n base input (cleared (turn_on base input r))
unfolding lines_from
lines-turn n base input r e = rw (e, lines_from)

pub lines-stop : (n base : ℕ) (input : List ℕ) (r : Replay) → ready_in input true r ≡ false → lines_from n base input r ≡ []
unfolding lines_from
lines-stop zero base input r e = refl
lines-stop (suc n) base input r e = rw (e, lines_from)

-- ---- lines as text

texts-append : (a b : List Line) → texts_of (a ++ b) ≡ texts_of a ++ texts_of b
texts-append [] b = refl
texts-append (l ∷ a) b = ap (λ (x : List ℕ). line_of l ++ x) (texts-append a b) ∙ sym (append_assoc (line_of l) (texts_of a) (texts_of b))

one-text : (l : Line) → line_of l ≡ texts_of (l ∷ [])
one-text l = sym (append-nil (line_of l))

-- a turn puts its lines, and does not look at the text before it
turn-text : (base : ℕ) (input : List ℕ) (r : Replay) → (turn_on base input r).text ≡ r.text ++ texts_of (turn_lines base input r r.session.mode)
unfolding turn_on
turn-text base input r = go r.session.mode
  where
    opened : (settings : Bool) → opening_of r.session settings ≡ texts_of (opening_lines r.session settings)
    opened true = refl
    opened false = one-text _

    recorded : (way : Bool) (l : Line) → when way [] (line_of l) ≡ texts_of (when way [] (l ∷ []))
    recorded true l = refl
    recorded false l = one-text l

    go : (mode : Mode) → (turn_by base input r mode).text ≡ r.text ++ texts_of (turn_lines base input r mode)
    go modes.Start = ap (λ (x : List ℕ). r.text ++ x) (opened (settings_at input r.at))
    go modes.Records = by (called_of r.session.chosen input r.at)
      where
        next : (x : Replay) → (next_on base input x).text ≡ x.text ++ texts_of (next_lines base input x)
        next x =
            let t = record_turn_of x.session (base + x.at) input x.at x.lent in
            ap (λ (l : List ℕ). x.text ++ l) (recorded (under_way t.effect.session.mode) t.effect.line)

        by : (called : Bool) → (next_on base input (when called (swapped r) r)).text ≡ r.text ++ texts_of (next_lines base input (when called (swapped r) r))
        by true = next (swapped r)
        by false = next r
    go (modes.Steps left taken) = ap (λ (x : List ℕ). r.text ++ x) (one-text (step_line_of r.session left taken r.lent).effect.line)
    go modes.Over = sym (append-nil r.text)

turn-cleared : (base : ℕ) (input : List ℕ) (r : Replay) → cleared (turn_on base input (cleared r)) ≡ cleared (turn_on base input r)
unfolding turn_on
turn-cleared base input r = go r.session.mode
  where
    go : (mode : Mode) → cleared (turn_by base input (cleared r) mode) ≡ cleared (turn_by base input r mode)
    go modes.Start = refl
    go modes.Records = by (called_of r.session.chosen input r.at)
      where
        by : (called : Bool) → cleared (next_on base input (when called (swapped (cleared r)) (cleared r))) ≡ cleared (next_on base input (when called (swapped r) r))
        by true = refl
        by false = refl
    go (modes.Steps left taken) = refl
    go modes.Over = refl

lines-cleared : (base : ℕ) (input : List ℕ) (r : Replay) (mode : Mode) → turn_lines base input (cleared r) mode ≡ turn_lines base input r mode
lines-cleared base input r modes.Start = refl
lines-cleared base input r modes.Records = by (called_of r.session.chosen input r.at)
  where
    by : (called : Bool) → next_lines base input (when called (swapped (cleared r)) (cleared r)) ≡ next_lines base input (when called (swapped r) r)
    by true = refl
    by false = refl
lines-cleared base input r (modes.Steps left taken) = refl
lines-cleared base input r modes.Over = refl

pub list-lines : (n : ℕ) (input : List ℕ) (r : Replay) → list_from n input r ≡ r.text ++ texts_of (lines_from n 0 input (cleared r))
unfolding list_from lines_from
list-lines zero input r = sym (append-nil r.text)
list-lines (suc n) input r =
    ⊎_elim {C = list_from (suc n) input r ≡ r.text ++ texts_of (lines_from (suc n) 0 input (cleared r))} (goes (list-lines n input (turn_on 0 input r))) stops (decide (ready_in input true r))
  where
    lines : List Line
    lines = turn_lines 0 input r r.session.mode

    more : List Line
    more = lines_from n 0 input (cleared (turn_on 0 input r))

    goes : list_from n input (turn_on 0 input r) ≡ (turn_on 0 input r).text ++ texts_of more → ready_in input true r ≡ true
        → list_from (suc n) input r ≡ r.text ++ texts_of (lines_from (suc n) 0 input (cleared r))
    goes rest e =
        list-turn n input r e ∙ rest
        ∙ ap (λ (x : List ℕ). x ++ texts_of more) (turn-text 0 input r)
        ∙ append_assoc r.text (texts_of lines) (texts_of more)
        ∙ ap (λ (x : List ℕ). r.text ++ x)
        (sym (texts-append lines more)
        ∙ ap texts_of (sym (lines-turn n 0 input (cleared r) e
        ∙ ap₂ ◌++◌ (lines-cleared 0 input r r.session.mode) (ap (lines_from n 0 input) (turn-cleared 0 input r)))))

    stops : ready_in input true r ≡ false → list_from (suc n) input r ≡ r.text ++ texts_of (lines_from (suc n) 0 input (cleared r))
    stops e = list-stop (suc n) input r e ∙ sym (append-nil r.text) ∙ ap (λ (x : List Line). r.text ++ texts_of x) (sym (lines-stop (suc n) 0 input (cleared r) e))

-- ---- as many turns as the measure says are enough

pub lines-enough : (n k : ℕ) (input : List ℕ) (r : Replay) → measure_of input r ≤ n → lines_from (n + k) 0 input r ≡ lines_from n 0 input r
lines-enough zero k input r h =
    ⊎_elim {C = lines_from (0 + k) 0 input r ≡ lines_from 0 0 input r} (λ e. absurd (omega (arith, turn-less input r e)))
    (λ e. lines-stop (0 + k) 0 input r e ∙ sym (lines-stop 0 0 input r e)) (decide (ready_in input true r))
lines-enough (suc n) k input r h =
    let same : suc n + k ≡ suc (n + k) = omega arith in
    ap (λ (j : ℕ). lines_from j 0 input r) same
    ∙ ⊎_elim {C = lines_from (suc (n + k)) 0 input r ≡ lines_from (suc n) 0 input r}
    (λ e. lines-turn (n + k) 0 input r e
    ∙ ap (λ (x : List Line). turn_lines 0 input r r.session.mode ++ x) (lines-enough n k input (cleared (turn_on 0 input r)) (omega (arith, turn-less input r e)))
    ∙ sym (lines-turn n 0 input r e))
    (λ e. lines-stop (suc (n + k)) 0 input r e ∙ sym (lines-stop (suc n) 0 input r e)) (decide (ready_in input true r))

-- ---- bytes before a trace

module _ (before t : List ℕ) where
  abbrev pub whole : List ℕ
  whole = before ++ (t ++ [])

  ready-later : (r : Replay) → ready_in whole true (seen_in (length before) [] r) ≡ ready_in t true r
  ready-later r =
      let left : length whole - (length before + r.at) ≡ length t - r.at = omega (arith, length-append before (t ++ []), length-append t []) in
      ap (λ (n : ℕ). ready_of r.session.mode n true) left

  lines-part : (r : Replay) → r.at ≤ length t → ready_in t true r ≡ true
      → turn_lines 0 whole (seen_in (length before) [] r) r.session.mode ≡ turn_lines (length before) t r r.session.mode
  lines-part r h ready = go r.session.mode ready
    where
      go : (mode : Mode) → ready_of mode (length t - r.at) true ≡ true
          → turn_lines 0 whole (seen_in (length before) [] r) mode ≡ turn_lines (length before) t r mode
      go modes.Start e = ap (opening_lines r.session) (starts-part before t [] r.at true (λ _. refl) h e)
      go modes.Records e =
          ap (λ (called : Bool). next_lines 0 whole (when called (swapped (seen_in (length before) [] r)) (seen_in (length before) [] r)))
          (called-part before t [] r.session.chosen r.at true (λ _. refl) h e)
          ∙ by (called_of r.session.chosen t r.at)
        where
          next : (x : Replay) → x.at ≡ r.at → next_lines 0 whole (seen_in (length before) [] x) ≡ next_lines (length before) t x
          next x same =
              let place : 0 + (length before + x.at) ≡ length before + x.at = omega arith in
              ap (λ (n : ℕ). record_lines (record_turn_of x.session n whole (length before + x.at) x.lent).effect) place
              ∙ ap (λ (y : Turn). record_lines y.effect)
              (reading-turn before t [] x.session (length before + x.at) x.lent x.at true (λ _. refl) (omega (arith, h, same))
              (subst (λ (n : ℕ). ready_of modes.Records (length t - n) true ≡ true) (sym same) e))

          by : (called : Bool) → next_lines 0 whole (when called (swapped (seen_in (length before) [] r)) (seen_in (length before) [] r)) ≡ next_lines (length before) t (when called (swapped r) r)
          by true = next (swapped r) refl
          by false = next r refl
      go (modes.Steps left taken) e = refl
      go modes.Over e = absurd (never e)

  -- turns on the whole, from where the trace begins, are turns on the trace at its place
  pub lines-later : (k : ℕ) (r : Replay) → r.at ≤ length t → lines_from k 0 whole (seen_in (length before) [] (cleared r)) ≡ lines_from k (length before) t (cleared r)
  unfolding lines_from turns_of
  lines-later zero r h = refl
  lines-later (suc k) r h =
      let x = turn_on (length before) t (cleared r) in
      ⊎_elim {C = lines_from (suc k) 0 whole (seen_in (length before) [] (cleared r)) ≡ lines_from (suc k) (length before) t (cleared r)}
      (λ e. lines-turn k 0 whole (seen_in (length before) [] (cleared r)) (ready-later (cleared r) ∙ e)
      ∙ ap₂ ◌++◌ (lines-part (cleared r) h e)
      (ap (λ (y : Replay). lines_from k 0 whole (cleared y)) (on-part before t [] [] true (cleared r) (λ _. refl) h e) ∙ lines-later k x (turns-within (length before) t (cleared r) 1 h))
      ∙ sym (lines-turn k (length before) t (cleared r) e))
      (λ e. lines-stop (suc k) 0 whole (seen_in (length before) [] (cleared r)) (ready-later (cleared r) ∙ e) ∙ sym (lines-stop (suc k) (length before) t (cleared r) e))
      (decide (ready_in t true (cleared r)))
