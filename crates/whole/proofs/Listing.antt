-- A replay part by part gives the listing.
use mathlib.Core.Path.{◌≡◌, refl, sym, ap, ap₂, subst, ◌∙◌}
use mathlib.Core.Logic.{⊎_elim}
use Prim.Native.Nat.{ℕ, zero, suc, ◌+◌, ◌-◌, ◌*◌, ◌≤◌, ◌<◌}
use native.Mathlib.Nat.{add-zero}
use mathlib.Core.Bool.{Bool, true, false}
use mathlib.Core.List.{List, [], ◌++◌, append_assoc, append-nil}
use native.Mathlib.Omega.{arith}
use lib.ListN.{length, take, drop, take-append-drop, length-append, length-drop}
use lib.Seq.{length-take-le, take-append_seam}
use lib.Dec.{leb, ltb}
use borrow.Author.Tests.{ltb-true, ltb-false, lt-ltb, leb-true}
use Rattle.kit.specs.Choice.{when}
use Rattle.kit.proofs.Choice.{decide, both_right}
use Rattle.listing.specs.Line.{header_of}
use Rattle.record.specs.Claims.{longest}
use Rattle.session.specs.declared.Mode.{Mode}
use Rattle.session.specs.declared.Mode.TheVariants as modes
use Rattle.session.specs.declared.Session.{Session}
use Rattle.state.specs.declared.engine.Engine.{Engine}
use Rattle.session.specs.Effect.{Lent, lend}
use Rattle.session.specs.Pass.{ready_of, ready_in, line_room, Replay, replay_as, begin_with, turn_on, turns_of}
use Rattle.session.proofs.Turns.{turns-join}
use Rattle.whole.specs.Listing.{at_start, list_from, most_turns, listing_of, Replays, begun, passed, Listing}
use Rattle.whole.proofs.Parts.{seen_in, parts, turns-within}
use Rattle.whole.proofs.Measure.{measure_of, turn-less}

-- ---- the listing and its turns

pub list-turn : (k : ℕ) (input : List ℕ) (r : Replay) → ready_in input true r ≡ true → list_from (suc k) input r ≡ list_from k input (turn_on 0 input r)
unfolding list_from
list-turn k input r e = rw (e, list_from)

pub list-stop : (k : ℕ) (input : List ℕ) (r : Replay) → ready_in input true r ≡ false → list_from k input r ≡ r.text
unfolding list_from
list-stop zero input r e = refl
list-stop (suc k) input r e = rw (e, list_from)

-- turns that can be taken come off the listing's
list-turns : (input : List ℕ) (r : Replay) (n k : ℕ) → ((j : ℕ) → j < n → ready_in input true (turns_of j 0 input r) ≡ true)
    → list_from (n + k) input r ≡ list_from k input (turns_of n 0 input r)
unfolding turns_of
list-turns input r zero k ready = let same : 0 + k ≡ k = omega arith in ap (λ (j : ℕ). list_from j input r) same
list-turns input r (suc n) k ready =
    let same : suc n + k ≡ n + suc k = omega arith in
    ap (λ (j : ℕ). list_from j input r) same ∙ list-turns input r n (suc k) (λ j i. ready j (omega arith))
    ∙ list-turn k input (turns_of n 0 input r) (ready n (omega arith))

-- as many turns as the measure says are enough
list-enough : (n k : ℕ) (input : List ℕ) (r : Replay) → measure_of input r ≤ n → list_from (n + k) input r ≡ list_from n input r
list-enough zero k input r h =
    ⊎_elim {C = list_from (0 + k) input r ≡ list_from 0 input r} (λ e. absurd (omega (arith, turn-less input r e)))
    (λ e. list-stop (0 + k) input r e ∙ sym (list-stop 0 input r e)) (decide (ready_in input true r))
list-enough (suc n) k input r h =
    let same : suc n + k ≡ suc (n + k) = omega arith in
    ap (λ (j : ℕ). list_from j input r) same
    ∙ ⊎_elim {C = list_from (suc (n + k)) input r ≡ list_from (suc n) input r}
    (λ e. list-turn (n + k) input r e ∙ list-enough n k input (turn_on 0 input r) (omega (arith, turn-less input r e)) ∙ sym (list-turn n input r e))
    (λ e. list-stop (suc (n + k)) input r e ∙ sym (list-stop (suc n) input r e)) (decide (ready_in input true r))

-- ---- a part in the whole

module _ (input part rest : List ℕ) (place : ℕ) (ended : Bool) (within : place ≤ length input) (split : drop place input ≡ part ++ rest)
    (last : ended ≡ true → rest ≡ []) where
  sizes : place + length part ≤ length input
  sizes = omega (arith, length-drop place input, length-append part rest, ap length split)

  -- bytes that are left of the part are left of the whole
  left-whole : (at : ℕ) → when ended (ltb 0 (length part - at)) (leb longest (length part - at)) ≡ true → ltb 0 (length input - (place + at)) ≡ true
  left-whole at e = lt-ltb 0 (length input - (place + at)) (omega (arith, sizes, some ended e))
    where
      some : (t : Bool) → when t (ltb 0 (length part - at)) (leb longest (length part - at)) ≡ true → 0 < length part - at
      some true f = ltb-true 0 (length part - at) f
      some false f = omega (arith, leb-true longest (length part - at) f)

  -- a turn that is ready on the part is ready on the whole
  ready-whole : (mode : Mode) (at : ℕ) → ready_of mode (length part - at) ended ≡ true → ready_of mode (length input - (place + at)) true ≡ true
  ready-whole modes.Start at e = left-whole at e
  ready-whole modes.Records at e = left-whole at e
  ready-whole (modes.Steps n taken) at e = refl
  ready-whole modes.Over at e = e

  module _ (s : Session) (lent : Lent) (text : List ℕ) where
    part-turns : (n : ℕ) → ((k : ℕ) → k < n → ready_in part ended (turns_of k place part (begin_with s lent)) ≡ true)
        → turns_of n 0 input (replay_as s place lent text) ≡ seen_in place text (turns_of n place part (begin_with s lent))
    part-turns n ready =
        let long : length (take place input) ≡ place = length-take-le place input within in
        let whole : take place input ++ (part ++ rest) ≡ input = ap (λ (l : List ℕ). take place input ++ l) (sym split) ∙ take-append-drop place input in
        ap (turns_of n 0 input) (sym (ap₂ (λ (a : ℕ) (l : List ℕ). replay_as s a lent l) (add-zero place) (append-nil text)))
        ∙ subst (λ (l : List ℕ). turns_of n 0 l (seen_in place text (begin_with s lent)) ≡ seen_in place text (turns_of n place part (begin_with s lent))) whole
        (subst (λ (d : ℕ). ((k : ℕ) → k < n → ready_in part ended (turns_of k d part (begin_with s lent)) ≡ true)
        → turns_of n 0 (take place input ++ (part ++ rest)) (seen_in d text (begin_with s lent)) ≡ seen_in d text (turns_of n d part (begin_with s lent))) long
        (parts (take place input) part rest text ended (begin_with s lent) n last (omega arith)) ready)

-- ---- replays

-- what a replay has come to, as turns on the whole trace
record Seen (input : List ℕ) (place : ℕ) (s : Session) (o : Engine) (m w text : List ℕ) : Type 0 where
  turns : ℕ
  lines : List ℕ
  said : text ≡ header_of ++ lines
  ready : (k : ℕ) → k < turns → ready_in input true (turns_of k 0 input at_start) ≡ true
  ends : replay_as s place (lend m w o) lines ≡ turns_of turns 0 input at_start
  within : place ≤ length input

seen : {input : List ℕ} {place : ℕ} {s : Session} {o : Engine} {m w text : List ℕ} → Replays input place s o m w text → Seen input place s o m w text
unfolding turns_of
seen begun = record {
  turns = 0;
  lines = [];
  said = sym (append-nil header_of);
  ready = λ k h. absurd (omega arith);
  ends = refl;
  within = omega arith;
}
seen {input} (passed {place} {s} {o} {m} {w} {text} before part rest ended split last out r m' w' out' p) =
    let lent = lend m w o in
    let h = seen before in
    let can : (k : ℕ) → k < p.turns → ready_in part ended (turns_of k place part (begin_with s lent)) ≡ true =
    λ k i. both_right (leb (length (turns_of k place part (begin_with s lent)).text + line_room) (length out)) (ready_in part ended (turns_of k place part (begin_with s lent))) (p.goes k i) in
    let on : (j : ℕ) → j ≤ p.turns → turns_of (h.turns + j) 0 input at_start ≡ seen_in place h.lines (turns_of j place part (begin_with s lent)) =
    λ j i. turns-join h.turns j 0 input at_start ∙ ap (turns_of j 0 input) (sym h.ends)
    ∙ part-turns input part rest place ended h.within split last s lent h.lines j (λ k l. can k (omega arith)) in
    let inside : r.at ≤ length part =
    subst (λ (x : Replay). x.at ≤ length part) (sym p.ends) (turns-within place part (begin_with s lent) p.turns (omega arith)) in
    record {
      turns = h.turns + p.turns;
      lines = h.lines ++ p.text;
      said = ap₂ ◌++◌ h.said (ap₂ take p.put p.stored ∙ take-append_seam p.text (drop r.put out)) ∙ append_assoc header_of h.lines p.text;
      ready = λ k i. ⊎_elim {C = ready_in input true (turns_of k 0 input at_start) ≡ true} (λ e. h.ready k (ltb-true k h.turns e))
          (λ e. let j : ℕ = k - h.turns in
          let same : h.turns + j ≡ k = omega (arith, ltb-false k h.turns e) in
          subst (λ (n : ℕ). ready_in input true (turns_of n 0 input at_start) ≡ true) same
          (subst (λ (x : Replay). ready_in input true x ≡ true) (sym (on j (omega (arith, ltb-false k h.turns e))))
          (ready-whole input part rest place ended h.within split last (turns_of j place part (begin_with s lent)).session.mode (turns_of j place part (begin_with s lent)).at
          (can j (omega (arith, ltb-false k h.turns e))))))
          (decide (ltb k h.turns));
      ends = ap (seen_in place h.lines) p.ends ∙ sym (on p.turns (omega arith));
      within = omega (arith, sizes input part rest place ended h.within split last);
    }

pub listing : Listing
unfolding listing_of
listing = record {
  whole = λ input place s o m w text q stop.
      let h = seen q in
      let n = suc (most_turns * length input) in
      let turned : h.turns + n ≡ n + h.turns = omega arith in
      let over : ready_in input true (turns_of h.turns 0 input at_start) ≡ false = subst (λ (x : Replay). ready_in input true x ≡ false) h.ends stop in
      h.said
      ∙ ap (λ (l : List ℕ). header_of ++ l)
      (ap (λ (x : Replay). x.text) h.ends ∙ sym (list-stop n input (turns_of h.turns 0 input at_start) over)
      ∙ sym (list-turns input at_start h.turns n h.ready) ∙ ap (λ (k : ℕ). list_from k input at_start) turned
      ∙ list-enough n h.turns input at_start (omega arith));
  enough = λ input k. ap (λ (l : List ℕ). header_of ++ l) (list-enough (suc (most_turns * length input)) k input at_start (omega arith));
  empty = ap (λ (l : List ℕ). header_of ++ l) (list-stop (suc (most_turns * 0)) [] at_start refl) ∙ append-nil header_of;
}
