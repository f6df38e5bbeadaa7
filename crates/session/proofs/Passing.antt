-- Turns in their midst: what a loop has taken and put so far, and what one turn more, or some turns more, do to it.
use mathlib.Core.Path.{◌≡◌, refl, sym, ap, subst, ◌∙◌}
use mathlib.Core.Logic.{⊎_elim}
use Prim.Native.Nat.{ℕ, zero, suc, ◌+◌, ◌-◌, ◌≤◌, ◌<◌}
use native.Mathlib.Nat.{add-zero}
use mathlib.Core.Bool.{Bool, true, false}
use mathlib.Core.List.{List, [], ◌++◌, append_assoc, append-nil}
use borrow.Author.Count.{below_more}
use borrow.Author.Tests.{le-leb, lt-leb, leb-true, ltb-true, ltb-false}
use native.Mathlib.Omega.{arith}
use lib.ListN.{length, drop, length-append}
use lib.Seq.{sets-eq}
use lib.Dec.{leb, ltb}
use Rattle.kit.specs.Choice.{when, both}
use Rattle.state.specs.declared.engine.Engine.{Engine}
use Rattle.kit.proofs.Choice.{decide, both_left, both_right, both-join}
use Rattle.listing.specs.Line.{line_of}
use Rattle.record.specs.Starts.{settings_at}
use Rattle.digits.specs.Puts.{Puts}
use Rattle.digits.proofs.Puts.{puts-length, puts_then}
use Rattle.session.specs.declared.Mode.{Mode}
use Rattle.session.specs.declared.Mode.TheVariants as modes
use Rattle.session.specs.declared.Session.{Session}
use Rattle.session.specs.declared.Passed.{Passed}
use Rattle.session.specs.Chosen.{called_of}
use Rattle.session.specs.Effect.{Lent, lend, text_of, with_mode, opening_of}
use Rattle.session.specs.Stepping.{step_line_of}
use Rattle.session.specs.Turn.{record_turn_of}
use Rattle.session.specs.Pass.{ready_of, ready_in, Replay, replay_as, swapped, next_on, turn_by, turn_on, turns_of, line_room, goes_on, Passes, Takes}
use Rattle.session.proofs.Turns.{both-no, SameLengths, turns-join, turns-kept}

pub record Passing (room base : ℕ) (input : List ℕ) (ended : Bool) (s₀ : Session) (at₀ : ℕ) (l₀ : Lent) (out₀ : List ℕ) (put₀ : ℕ) (s : Session) (at : ℕ) (lent : Lent) (out : List ℕ) (put : ℕ) : Type 0 where
  pub turns : ℕ
  pub text : List ℕ
  pub goes : (k : ℕ) → k < turns → goes_on room input ended (turns_of k base input (replay_as s₀ at₀ l₀ [])) ≡ true
  pub ends : replay_as s at lent text ≡ turns_of turns base input (replay_as s₀ at₀ l₀ [])
  pub puts : Puts out₀ out put₀ put text
  pub sized : put₀ + room ≡ length out₀
  pub fits : put ≤ length out₀
  pub within : at ≤ length input
  pub lengths : SameLengths l₀ lent

pub passing-begin : (room base : ℕ) (input : List ℕ) (ended : Bool) (s : Session) (at : ℕ) (lent : Lent) (out : List ℕ) (put : ℕ) → put + room ≡ length out
    → at ≤ length input → Passing room base input ended s at lent out put s at lent out put
unfolding turns_of
passing-begin room base input ended s at lent out put sized within = record {
  turns = 0;
  text = [];
  goes = λ k h. absurd (omega arith);
  ends = refl;
  puts = record { past = sym (add-zero put); stored = refl };
  sized = sized;
  fits = omega arith;
  within = within;
  lengths = record { memory = refl; windows = refl };
}

module _ {room base : ℕ} {input : List ℕ} {ended : Bool} {s₀ : Session} {at₀ : ℕ} {l₀ : Lent} {out₀ : List ℕ} {put₀ : ℕ} {s : Session} {at : ℕ} {lent : Lent} {out : List ℕ} {put : ℕ}
    (p : Passing room base input ended s₀ at₀ l₀ out₀ put₀ s at lent out put) where
  -- the buffer keeps its length
  pub passing-room : length out ≡ length out₀
  passing-room = puts-length p.puts

  -- a turn that was ready, its text in the room that was left
  pub passing-turn : {s' : Session} {at' : ℕ} {lent' : Lent} {out' : List ℕ} {put' : ℕ} (told : List ℕ)
      → ((text : List ℕ) → turn_on base input (replay_as s at lent text) ≡ replay_as s' at' lent' (text ++ told))
      → ready_of s.mode (length input - at) ended ≡ true → put + line_room ≤ length out₀ → Puts out out' put put' told → put' ≤ length out₀
      → at' ≤ length input → SameLengths lent lent'
      → Passing room base input ended s₀ at₀ l₀ out₀ put₀ s' at' lent' out' put'
  unfolding turns_of
  passing-turn {s'} {at'} {lent'} {out'} {put'} told turn can free puts fits within lengths =
      let go : both (leb (length p.text + line_room) room) (ready_of s.mode (length input - at) ended) ≡ true =
      both-join (le-leb (length p.text + line_room) room (omega (arith, p.puts.past, p.sized))) can in
      record {
        turns = suc p.turns;
        text = p.text ++ told;
        goes = λ k h. below_more _ _ p.goes (subst (λ (x : Replay). goes_on room input ended x ≡ true) p.ends go) k (omega arith);
        ends = sym (turn p.text) ∙ ap (turn_on base input) p.ends;
        puts = puts_then told puts.past p.puts puts.stored;
        sized = p.sized;
        fits = fits;
        within = within;
        lengths = record { memory = lengths.memory ∙ p.lengths.memory; windows = lengths.windows ∙ p.lengths.windows };
      }

  -- turns end where the buffer is full, or where none can be taken
  pub passing-full : length out₀ < put + line_room → goes_on room input ended (turns_of p.turns base input (replay_as s₀ at₀ l₀ [])) ≡ false
  passing-full h =
      subst (λ (x : Replay). goes_on room input ended x ≡ false) p.ends
      (ap (λ (t : Bool). both t (ready_of s.mode (length input - at) ended)) (lt-leb (length p.text + line_room) room (omega (arith, p.puts.past, p.sized))))

  pub passing-stops : ready_of s.mode (length input - at) ended ≡ false → goes_on room input ended (turns_of p.turns base input (replay_as s₀ at₀ l₀ [])) ≡ false
  passing-stops h =
      subst (λ (x : Replay). goes_on room input ended x ≡ false) p.ends
      (ap (both (leb (length p.text + line_room) room)) h ∙ both-no (leb (length p.text + line_room) room))

  -- text was put, so a turn was taken
  passing-some : put₀ < put → 1 ≤ p.turns
  unfolding turns_of
  passing-some h = go p.turns refl
    where
      go : (n : ℕ) → p.turns ≡ n → 1 ≤ p.turns
      go zero e =
          let none : length p.text ≡ 0 = ap length (ap (λ (x : Replay). x.text) p.ends ∙ ap (λ (n : ℕ). (turns_of n base input (replay_as s₀ at₀ l₀ [])).text) e) in
          absurd (omega (arith, p.puts.past, none))
      go (suc n) e = omega (arith, e)

-- a whole buffer's turns are a pass
pub passes-by : {base : ℕ} {input : List ℕ} {ended : Bool} {s₀ : Session} {o₀ : Engine} {m₀ w₀ out₀ : List ℕ} {s : Session} {o : Engine} {at : ℕ} {m w out : List ℕ} {put : ℕ}
    (p : Passing (length out₀) base input ended s₀ 0 (lend m₀ w₀ o₀) out₀ 0 s at (lend m w o) out put)
    → goes_on (length out₀) input ended (turns_of p.turns base input (replay_as s₀ 0 (lend m₀ w₀ o₀) [])) ≡ false
    → Passes s₀ o₀ base input ended m₀ w₀ out₀ (record { session = s; other = o; at = at; put = put }) m w out
passes-by {out₀ = out₀} {put = put} p stops =
    let long : put ≡ length p.text = omega (arith, p.puts.past) in
    let place : 0 + length p.text ≡ put = omega (arith, p.puts.past) in
    record {
      turns = p.turns;
      text = p.text;
      goes = p.goes;
      stops = stops;
      ends = p.ends;
      put = long;
      fits = p.fits;
      stored = p.puts.stored ∙ sets-eq p.text out₀ 0 (omega (arith, long, p.fits)) ∙ ap (λ (n : ℕ). p.text ++ drop n out₀) place;
    }

-- the turns of a loop that put text are turns that a pass can take over
pub takes-by : {base : ℕ} {input : List ℕ} {ended : Bool} {s₀ : Session} {at₀ : ℕ} {l₀ : Lent} {out₀ : List ℕ} {put₀ : ℕ} {s : Session} {at : ℕ} {lent : Lent} {out : List ℕ} {put : ℕ}
    → Passing (length out₀ - put₀) base input ended s₀ at₀ l₀ out₀ put₀ s at lent out put → put₀ < put
    → Takes base input ended s₀ at₀ l₀ out₀ put₀ (record { session = s; at = at; put = put }) lent out
takes-by p h = record { turns = p.turns; text = p.text; some = passing-some p h; goes = p.goes; ends = p.ends; puts = p.puts; fits = p.fits }

-- ---- text that was put before does not matter to a turn

abbrev behind : List ℕ → Replay → Replay
behind text x = replay_as x.session x.at x.lent (text ++ x.text)

next-behind : (base : ℕ) (input text : List ℕ) (x : Replay) → next_on base input (behind text x) ≡ behind text (next_on base input x)
next-behind base input text x =
    let t = record_turn_of x.session (base + x.at) input x.at x.lent in
    ap (replay_as t.effect.session t.at t.lent) (append_assoc text x.text (text_of t.effect.session.mode t.effect.line))

turn-behind : (base : ℕ) (input text : List ℕ) (x : Replay) → turn_on base input (behind text x) ≡ behind text (turn_on base input x)
unfolding turn_on
turn-behind base input text x = go x.session.mode
  where
    go : (mode : Mode) → turn_by base input (behind text x) mode ≡ behind text (turn_by base input x mode)
    go modes.Start = ap (replay_as (with_mode x.session modes.Records) x.at x.lent) (append_assoc text x.text (opening_of x.session (settings_at input x.at)))
    go modes.Records = by (called_of x.session.chosen input x.at)
      where
        by : (called : Bool) → next_on base input (when called (swapped (behind text x)) (behind text x)) ≡ behind text (next_on base input (when called (swapped x) x))
        by true = next-behind base input text (swapped x)
        by false = next-behind base input text x
    go (modes.Steps left taken) =
        let a = step_line_of x.session left taken x.lent in
        ap (replay_as a.effect.session x.at a.lent) (append_assoc text x.text (line_of a.effect.line))
    go modes.Over = refl

turns-behind : (base : ℕ) (input text : List ℕ) (n : ℕ) (x : Replay) → turns_of n base input (behind text x) ≡ behind text (turns_of n base input x)
unfolding turns_of
turns-behind base input text zero x = refl
turns-behind base input text (suc n) x = ap (turn_on base input) (turns-behind base input text n x) ∙ turn-behind base input text (turns_of n base input x)

module _ {room base : ℕ} {input : List ℕ} {ended : Bool} {s₀ : Session} {at₀ : ℕ} {l₀ : Lent} {out₀ : List ℕ} {put₀ : ℕ} {s : Session} {at : ℕ} {lent : Lent} {out : List ℕ} {put : ℕ}
    (p : Passing room base input ended s₀ at₀ l₀ out₀ put₀ s at lent out put)
    {r : Passed} {lent' : Lent} {out' : List ℕ} (q : Takes base input ended s at lent out put r lent' out') where
  joined : (j : ℕ) → turns_of (p.turns + j) base input (replay_as s₀ at₀ l₀ []) ≡ behind p.text (turns_of j base input (replay_as s at lent []))
  joined j =
      turns-join p.turns j base input (replay_as s₀ at₀ l₀ []) ∙ ap (turns_of j base input) (sym p.ends ∙ ap (replay_as s at lent) (sym (append-nil p.text)))
      ∙ turns-behind base input p.text j (replay_as s at lent [])

  goes-behind : (j : ℕ) → j < q.turns → goes_on room input ended (behind p.text (turns_of j base input (replay_as s at lent []))) ≡ true
  goes-behind j h =
      let x = turns_of j base input (replay_as s at lent []) in
      both-join
      (le-leb (length (p.text ++ x.text) + line_room) room
      (omega (
        arith,
        length-append p.text x.text,
        p.puts.past,
        p.sized,
        passing-room p,
        leb-true (length x.text + line_room) (length out - put) (both_left (leb (length x.text + line_room) (length out - put)) (ready_in input ended x) (q.goes j h)),
      )))
      (both_right (leb (length x.text + line_room) (length out - put)) (ready_in input ended x) (q.goes j h))

  -- some turns more
  pub passing-more : Passing room base input ended s₀ at₀ l₀ out₀ put₀ r.session r.at lent' out' r.put
  passing-more =
      let kept = turns-kept q.turns base input (replay_as s at lent []) p.within in
      let lengths : SameLengths lent lent' = subst (λ (x : Replay). SameLengths lent x.lent) (sym q.ends) kept.lengths in
      record {
        turns = p.turns + q.turns;
        text = p.text ++ q.text;
        goes = λ k i. ⊎_elim {C = goes_on room input ended (turns_of k base input (replay_as s₀ at₀ l₀ [])) ≡ true} (λ e. p.goes k (ltb-true k p.turns e))
            (λ e. let j : ℕ = k - p.turns in
            let same : p.turns + j ≡ k = omega (arith, ltb-false k p.turns e) in
            let below : j < q.turns = omega (arith, ltb-false k p.turns e) in
            subst (λ (n : ℕ). goes_on room input ended (turns_of n base input (replay_as s₀ at₀ l₀ [])) ≡ true) same
            (subst (λ (x : Replay). goes_on room input ended x ≡ true) (sym (joined j)) (goes-behind j below)))
            (decide (ltb k p.turns));
        ends = ap (behind p.text) q.ends ∙ sym (joined q.turns);
        puts = puts_then q.text q.puts.past p.puts q.puts.stored;
        sized = p.sized;
        fits = omega (arith, q.fits, passing-room p);
        within = subst (λ (x : Replay). x.at ≤ length input) (sym q.ends) kept.within;
        lengths = record { memory = lengths.memory ∙ p.lengths.memory; windows = lengths.windows ∙ p.lengths.windows };
      }

-- some turns more, one at least, are turns that a pass can take over
pub takes-more : {base : ℕ} {input : List ℕ} {ended : Bool} {s₀ : Session} {at₀ : ℕ} {l₀ : Lent} {out₀ : List ℕ} {put₀ : ℕ} {s : Session} {at : ℕ} {lent : Lent} {out : List ℕ} {put : ℕ}
    → Passing (length out₀ - put₀) base input ended s₀ at₀ l₀ out₀ put₀ s at lent out put
    → {r : Passed} {lent' : Lent} {out' : List ℕ} → Takes base input ended s at lent out put r lent' out'
    → Takes base input ended s₀ at₀ l₀ out₀ put₀ r lent' out'
unfolding passing-more
takes-more p q =
    let more = passing-more p q in
    record { turns = more.turns; text = more.text; some = omega (arith, q.some); goes = more.goes; ends = more.ends; puts = more.puts; fits = more.fits }
