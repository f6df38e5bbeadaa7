-- Which engine is chosen: a record for the other one is the same turn once the two have changed places.
use mathlib.Core.Path.{◌≡◌, refl, sym, ap, subst, ◌∙◌}
use Prim.Native.Nat.{ℕ, zero, suc, ◌-◌, ◌<◌}
use mathlib.Core.Bool.{Bool, true, false}
use mathlib.Core.List.{List, []}
use native.Mathlib.Omega.{arith}
use lib.ListN.{length}
use Rattle.kit.specs.Choice.{when}
use Rattle.kit.proofs.Choice.{yes, no, never}
use Rattle.state.specs.declared.engine.Engine.{Engine}
use Rattle.record.proofs.Naming.{named-once}
use Rattle.session.specs.declared.chosen.Chosen.{Chosen}
use Rattle.session.specs.declared.chosen.Chosen.TheVariants.{Only, First, Second}
use Rattle.session.specs.declared.Mode.{Mode}
use Rattle.session.specs.declared.Mode.TheVariants as modes
use Rattle.session.specs.declared.Session.{Session}
use Rattle.session.specs.declared.Passed.{Passed}
use Rattle.session.specs.Chosen.{turned_of, called_of}
use Rattle.session.specs.Effect.{Lent, lend}
use Rattle.session.specs.Pass.{Replay, replay_as, ready_of, calls_other, swapped_with, swapped, handed, next_on, turn_by, turn_on, turns_of, goes_on, Takes}

-- the engine that the record is for is chosen already
pub handed-kept : (input : List ℕ) (r : Replay) → called_of r.session.chosen input r.at ≡ false → handed input r ≡ r
handed-kept input r e = sym (no _ e refl)

-- after a change of places it is
pub turned-calls : (c : Chosen) (input : List ℕ) (at : ℕ) → called_of c input at ≡ true → called_of (turned_of c) input at ≡ false
turned-calls Only input at e = absurd (never e)
turned-calls First input at e = named-once input at 2 1 (λ z. omega arith) e
turned-calls Second input at e = named-once input at 1 2 (λ z. omega arith) e

module _ (base : ℕ) (input : List ℕ) (r : Replay) (mode : r.session.mode ≡ modes.Records) (called : called_of r.session.chosen input r.at ≡ true) where
  swapped-turn : turn_on base input (swapped r) ≡ turn_on base input r
  unfolding turn_on
  swapped-turn =
      ap (turn_by base input (swapped r)) mode
      ∙ ap (next_on base input) (handed-kept input (swapped r) (turned-calls r.session.chosen input r.at called) ∙ yes r called refl)
      ∙ sym (ap (turn_by base input r) mode)

  swapped-turns : (n : ℕ) → turns_of (suc n) base input (swapped r) ≡ turns_of (suc n) base input r
  unfolding turns_of
  swapped-turns zero = swapped-turn
  swapped-turns (suc n) = ap (turn_on base input) (swapped-turns n)

-- turns from the places changed are turns from the places as they were
pub takes-swapped : {base : ℕ} {input : List ℕ} {ended : Bool} {s : Session} {at : ℕ} {lent : Lent} {out : List ℕ} {put : ℕ} {r : Passed} {lent' : Lent} {out' : List ℕ}
    → s.mode ≡ modes.Records → called_of s.chosen input at ≡ true
    → Takes base input ended (swapped (replay_as s at lent [])).session at (swapped (replay_as s at lent [])).lent out put r lent' out'
    → Takes base input ended s at lent out put r lent' out'
unfolding turns_of
takes-swapped {base} {input} {ended} {s} {at} {lent} {out} {put} {r} {lent'} mode called q = record {
  turns = q.turns;
  text = q.text;
  some = q.some;
  goes = by;
  ends = q.ends ∙ same q.turns q.some;
  puts = q.puts;
  fits = q.fits;
}
  where
    x : Replay
    x = replay_as s at lent []

    same : (n : ℕ) → 0 < n → turns_of n base input (swapped x) ≡ turns_of n base input x
    same zero h = absurd (omega (arith, h))
    same (suc n) h = swapped-turns base input x mode called n

    by : (k : ℕ) → k < q.turns → goes_on (length out - put) input ended (turns_of k base input x) ≡ true
    by zero h = q.goes 0 h
    by (suc k) h = subst (λ (y : Replay). goes_on (length out - put) input ended y ≡ true) (swapped-turns base input x mode called k) (q.goes (suc k) h)

-- ---- the engine that the next record is for is chosen, if it was not

-- only a record calls for an engine
calls-record : (mode : Mode) (c : Chosen) (input : List ℕ) (at : ℕ) → calls_other mode c input at ≡ true → (mode ≡ modes.Records) × (called_of c input at ≡ true)
calls-record modes.Start c input at e = absurd (never e)
calls-record modes.Records c input at e = (refl, e)
calls-record (modes.Steps left taken) c input at e = absurd (never e)
calls-record modes.Over c input at e = absurd (never e)

-- who is called for is chosen, and is not called for again
calls-once : (mode : Mode) (c : Chosen) (input : List ℕ) (at : ℕ) → calls_other mode c input at ≡ true → calls_other mode (turned_of c) input at ≡ false
calls-once modes.Start c input at e = refl
calls-once modes.Records c input at e = turned-calls c input at e
calls-once (modes.Steps left taken) c input at e = refl
calls-once modes.Over c input at e = refl

module _ (s : Session) (o : Engine) where
  handed-mode : (calls : Bool) → (when calls (swapped_with s o) s).mode ≡ s.mode
  handed-mode true = refl
  handed-mode false = refl

  handed-calls : (calls : Bool) (input : List ℕ) (at : ℕ) → calls ≡ calls_other s.mode s.chosen input at
      → calls_other (when calls (swapped_with s o) s).mode (when calls (swapped_with s o) s).chosen input at ≡ false
  handed-calls true input at e = calls-once s.mode s.chosen input at (sym e)
  handed-calls false input at e = sym e

  takes-handed : (calls : Bool) {base : ℕ} {input : List ℕ} {ended : Bool} {at : ℕ} {m w out : List ℕ} {put : ℕ} {r : Passed} {lent' : Lent} {out' : List ℕ}
      → calls ≡ calls_other s.mode s.chosen input at
      → Takes base input ended (when calls (swapped_with s o) s) at (lend m w (when calls s.engine o)) out put r lent' out'
      → Takes base input ended s at (lend m w o) out put r lent' out'
  takes-handed true {input = input} {at = at} e q = let c = calls-record s.mode s.chosen input at (sym e) in takes-swapped c.0 c.1 q
  takes-handed false e q = q

  -- the session h with the engine that is called for, and the engine a that is set aside
  module _ (input : List ℕ) (at : ℕ) {calls : Bool} {h : Session} (over : h ≡ when calls (swapped_with s o) s) (test : calls ≡ calls_other s.mode s.chosen input at) where
    pub over-ready : (n : ℕ) (ended : Bool) → ready_of s.mode n ended ≡ true → ready_of h.mode n ended ≡ true
    over-ready n ended e =
        subst (λ (x : Session). ready_of x.mode n ended ≡ true) (sym over) (subst (λ (m : Mode). ready_of m n ended ≡ true) (sym (handed-mode calls)) e)

    pub over-own : calls_other h.mode h.chosen input at ≡ false
    over-own = subst (λ (x : Session). calls_other x.mode x.chosen input at ≡ false) (sym over) (handed-calls calls input at test)

    pub takes-over : {base : ℕ} {ended : Bool} {a : Engine} {m w out : List ℕ} {put : ℕ} {r : Passed} {lent' : Lent} {out' : List ℕ}
        → a ≡ when calls s.engine o → Takes base input ended h at (lend m w a) out put r lent' out' → Takes base input ended s at (lend m w o) out put r lent' out'
    takes-over {base} {ended} {a} {m} {w} {out} {put} {r} {lent'} {out'} aside q =
        takes-handed calls test
        (subst (λ (x : Session). Takes base input ended x at (lend m w (when calls s.engine o)) out put r lent' out') over
        (subst (λ (x : Engine). Takes base input ended h at (lend m w x) out put r lent' out') aside q))
