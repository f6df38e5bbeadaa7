-- A record's turn, alone or in a loop, and that turns come to an end.
use mathlib.Core.Path.{◌≡◌, refl, sym, ap, subst, ◌∙◌}
use Prim.Native.Nat.{ℕ, zero, suc, ◌+◌, ◌-◌, ◌*◌, ◌≤◌, ◌<◌}
use mathlib.Core.Bool.{Bool, true, false}
use mathlib.Core.List.{List, [], ◌++◌}
use native.Mathlib.Omega.{arith}
use lib.ListN.{length, length-append}
use lib.Dec.{eqb, leb}
use borrow.Author.Tests.{le-leb, leb-true}
use Rattle.kit.proofs.Choice.{cases, never, both_left, both_right, both-join}
use Rattle.listing.specs.declared.line.Line.{Line}
use Rattle.listing.specs.Line.{line_of}
use Rattle.digits.specs.Puts.{Puts}
use Rattle.listing.proofs.Lines.{line-some}
use Rattle.record.specs.Reading.{reading_of}
use Rattle.record.specs.Starts.{settings_at}
use Rattle.session.specs.declared.Mode.{Mode}
use Rattle.session.specs.declared.Mode.TheVariants as modes
use Rattle.session.specs.declared.Session.{Session}
use Rattle.session.specs.declared.Effect.{Effect}
use Rattle.session.specs.declared.Passed.{Passed}
use Rattle.session.specs.Effect.{Lent, after, text_of, under_way, settings_line_of, opening_of}
use Rattle.session.specs.Stepping.{step_line_of}
use Rattle.session.specs.Turn.{Turn, turn_as, record_turn_of}
use Rattle.session.specs.Pass.{ready_of, ready_in, Replay, replay_as, record_on, swapped, next_on, turn_by, turn_on, turns_of, line_room, goes_on, Takes}
use Rattle.session.specs.Chosen.{two_of, called_of}
use Rattle.session.proofs.Turns.{Kept, record-kept}
use Rattle.session.proofs.Handing.{handed-kept}
use Rattle.session.proofs.Passing.{Passing, passing-turn}

module _ (base : ℕ) (input : List ℕ) (s : Session) (at : ℕ) (lent : Lent) (e : Effect) (at' : ℕ) (lent' : Lent) (mode : s.mode ≡ modes.Records)
    (hand : called_of s.chosen input at ≡ false) (seen : turn_as (after e lent') at' ≡ record_turn_of s (base + at) input at lent) where
  record-on : (text : List ℕ) → turn_on base input (replay_as s at lent text) ≡ replay_as e.session at' lent' (text ++ text_of e.session.mode e.line)
  unfolding turn_on
  record-on text =
      let r = replay_as s at lent text in
      ap (turn_by base input r) mode ∙ ap (next_on base input) (handed-kept input r hand) ∙ ap (record_on r) (sym seen)

  module _ (ended : Bool) (can : ready_of modes.Records (length input - at) ended ≡ true) where
    ready : ready_of s.mode (length input - at) ended ≡ true
    ready = subst (λ (m : Mode). ready_of m (length input - at) ended ≡ true) (sym mode) can

    -- alone
    pub takes-record : {out out' : List ℕ} {put put' : ℕ} → put + line_room ≤ length out → Puts out out' put put' (text_of e.session.mode e.line) → put' ≤ put + line_room
        → Takes base input ended s at lent out put (record { session = e.session; at = at'; put = put' }) lent' out'
    unfolding turns_of
    takes-record {out} {put = put} free puts short = record {
      turns = 1;
      text = text_of e.session.mode e.line;
      some = omega arith;
      goes = λ k h. let same : 0 ≡ k = omega (arith, h) in
          subst (λ (n : ℕ). goes_on (length out - put) input ended (turns_of n base input (replay_as s at lent [])) ≡ true) same
          (both-join (le-leb (0 + line_room) (length out - put) (omega arith)) ready);
      ends = sym (record-on []);
      puts = puts;
      fits = omega arith;
    }

    -- in a loop
    pub passing-record : {room : ℕ} {s₀ : Session} {at₀ : ℕ} {l₀ : Lent} {out₀ : List ℕ} {put₀ : ℕ} {out out' : List ℕ} {put put' : ℕ}
        → Passing room base input ended s₀ at₀ l₀ out₀ put₀ s at lent out put → put + line_room ≤ length out₀
        → Puts out out' put put' (text_of e.session.mode e.line) → put' ≤ put + line_room
        → Passing room base input ended s₀ at₀ l₀ out₀ put₀ e.session at' lent' out' put'
    passing-record p free puts short =
        let kept : Kept input lent at' lent' =
        subst (λ (t : Turn). Kept input lent t.at t.lent) (sym seen)
        (record-kept s (base + at) input at lent p.within (reading_of input at (eqb (base + at) 0) (two_of s.chosen)) refl) in
        passing-turn p (text_of e.session.mode e.line) record-on ready free puts (omega arith) kept.within kept.lengths

-- ---- turns come to an end: each puts a line, or is a CF's opening, whose record comes next, or an ST's, whose lines come next

abbrev pub weight : Mode → ℕ
weight modes.Start = 2
weight modes.Records = 1
weight (modes.Steps left taken) = 0
weight modes.Over = 0

weight-small : (mode : Mode) → weight mode ≤ 2
weight-small modes.Start = omega arith
weight-small modes.Records = omega arith
weight-small (modes.Steps left taken) = omega arith
weight-small modes.Over = omega arith

-- what is left of the room, and what comes next
abbrev weighed : ℕ → Replay → ℕ
weighed room x = 3 * (room - length x.text) + weight x.session.mode

module _ (room base : ℕ) (input : List ℕ) (ended : Bool) where
  turn-less : (x : Replay) → goes_on room input ended x ≡ true → weighed room (turn_on base input x) < weighed room x
  unfolding turn_on
  turn-less x go = by x.session.mode refl
    where
      free : length x.text + line_room ≤ room
      free = leb-true (length x.text + line_room) room (both_left (leb (length x.text + line_room) room) (ready_in input ended x) go)

      told : (m : Mode) (l : Line) → 3 * (room - length (x.text ++ text_of m l)) + weight m < 3 * (room - length x.text) + 1
      told modes.Start l = omega (arith, length-append x.text (line_of l), line-some l, free)
      told modes.Records l = omega (arith, length-append x.text (line_of l), line-some l, free)
      told (modes.Steps left taken) l = omega (arith, length-append x.text [], free)
      told modes.Over l = omega (arith, length-append x.text (line_of l), line-some l, free)

      next : (y : Replay) → y.text ≡ x.text → weighed room (next_on base input y) < 3 * (room - length x.text) + 1
      next y same =
          let t = record_turn_of y.session (base + y.at) input y.at y.lent in
          subst (λ (text : List ℕ). 3 * (room - length (text ++ text_of t.effect.session.mode t.effect.line)) + weight t.effect.session.mode < 3 * (room - length x.text) + 1) (sym same) (told t.effect.session.mode t.effect.line)

      opened : (settings : Bool) → 3 * (room - length (x.text ++ opening_of x.session settings)) + 1 < 3 * (room - length x.text) + 2
      opened true = omega (arith, length-append x.text [], free)
      opened false = let l = settings_line_of x.session.sequence x.session.engine.settings.width x.session.engine.settings.beats in omega (arith, length-append x.text (line_of l), line-some l, free)

      by : (m : Mode) → x.session.mode ≡ m → weighed room (turn_by base input x m) < 3 * (room - length x.text) + weight m
      by modes.Start e = opened (settings_at input x.at)
      by modes.Records e =
          cases (λ (y : Replay). weighed room (next_on base input y) < 3 * (room - length x.text) + 1) (called_of x.session.chosen input x.at)
          (λ _. next (swapped x) refl) (λ _. next x refl)
      by (modes.Steps left taken) e =
          let a = step_line_of x.session left taken x.lent in
          omega (arith, length-append x.text (line_of a.effect.line), line-some a.effect.line, weight-small a.effect.session.mode, free)
      by modes.Over e =
          absurd (never (sym (ap (λ (m : Mode). ready_of m (length input - x.at) ended) e)
          ∙ both_right (leb (length x.text + line_room) room) (ready_in input ended x) go))

  turns-less : (x : Replay) (n : ℕ) → ((k : ℕ) → k < suc n → goes_on room input ended (turns_of k base input x) ≡ true)
      → weighed room (turns_of (suc n) base input x) < weighed room x
  unfolding turns_of
  turns-less x zero goes = turn-less x (goes 0 (omega arith))
  turns-less x (suc n) goes =
      omega (arith, turn-less (turns_of (suc n) base input x) (goes (suc n) (omega arith)), turns-less x n (λ k h. goes k (omega arith)))

pub takes-less : {base : ℕ} {input : List ℕ} {ended : Bool} {s : Session} {at : ℕ} {lent : Lent} {out : List ℕ} {put : ℕ} {r : Passed} {lent' : Lent} {out' : List ℕ}
    → Takes base input ended s at lent out put r lent' out' → put ≤ length out
    → 3 * (length out - r.put) + weight r.session.mode < 3 * (length out - put) + weight s.mode
takes-less {base} {input} {ended} {s} {at} {lent} {out} {put} {r} {lent'} q h = by q.turns refl
  where
    by : (n : ℕ) → q.turns ≡ n → 3 * (length out - r.put) + weight r.session.mode < 3 * (length out - put) + weight s.mode
    by zero e = absurd (omega (arith, q.some, e))
    by (suc n) e =
        let less = turns-less (length out - put) base input ended (replay_as s at lent []) n (λ k i. q.goes k (omega (arith, e))) in
        let end : replay_as r.session r.at lent' q.text ≡ turns_of (suc n) base input (replay_as s at lent []) =
        q.ends ∙ ap (λ (k : ℕ). turns_of k base input (replay_as s at lent [])) e in
        let known = subst (λ (x : Replay). weighed (length out - put) x < weighed (length out - put) (replay_as s at lent [])) (sym end) less in
        omega (arith, known, q.puts.past, q.fits)

-- ---- an ST that is under way can always go on

pub ready-any : (mode : Mode) (n : ℕ) (ended : Bool) → under_way mode ≡ true → ready_of mode n ended ≡ true
ready-any modes.Start n ended e = absurd (never e)
ready-any modes.Records n ended e = absurd (never e)
ready-any (modes.Steps left taken) n ended e = refl
ready-any modes.Over n ended e = e
