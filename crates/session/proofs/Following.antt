-- When a loop over records of one kind goes on, and that the next record is then in order.
use mathlib.Core.Path.{◌≡◌, refl, sym, ap, ◌∙◌}
use mathlib.Core.Bool.{Bool, true, false, not}
use mathlib.Core.List.{List}
use Prim.Native.Nat.{ℕ, ◌+◌, ◌-◌, ◌≤◌, ◌<◌}
use lib.Dec.{eqb, leb}
use lib.ListN.{length, get_or}
use borrow.Author.Tests.{lt-leb, leb-true}
use Rattle.kit.specs.Choice.{both}
use Rattle.kit.specs.Word.{word_at, half_at}
use Rattle.kit.proofs.Choice.{no, both_left, both_right, never}
use Rattle.record.specs.declared.reading.Body.{Body}
use Rattle.record.specs.declared.reading.Body.TheVariants.{Write, Clock}
use Rattle.record.specs.Mark.{letters}
use Rattle.record.specs.Reading.{clock_at, reading_of}
use Rattle.record.specs.Follows.{follows_of}
use Rattle.record.specs.Names.{carries_engine}
use Rattle.record.proofs.Following.{whole, rises, marked, clock-kind, clock-follows, write-follows}
use Rattle.record.proofs.Naming.{unnamed}
use Rattle.session.specs.declared.chosen.Chosen.{Chosen}
use Rattle.session.specs.declared.chosen.Chosen.TheVariants.{Only, First, Second}
use Rattle.session.specs.declared.Mode.TheVariants as modes
use Rattle.session.specs.declared.Session.{Session}
use Rattle.session.specs.Chosen.{two_of, called_of}
use Rattle.session.specs.Effect.{Lent}
use Rattle.session.specs.Turn.{turn_as, apply_of, numbered, stale_of, record_by, record_turn_of}
use Rattle.session.specs.Pass.{ready_of, line_room, InOrder, goes_on_with, goes_on_writing}

module _ (input : List ℕ) (at : ℕ) (ended : Bool) (put room mark size before : ℕ) where
  module _ (g : goes_on_with input at ended put room mark size before ≡ true) where
    rest : both (ready_of modes.Records (length input - at) ended) (follows_of input at mark size before) ≡ true
    rest = both_right (leb (put + line_room) room) _ g

    pub on_room : put + line_room ≤ room
    on_room = leb-true (put + line_room) room (both_left (leb (put + line_room) room) _ g)

    pub on-whole : at + size ≤ length input
    on-whole = whole input at mark size before (both_right (ready_of modes.Records (length input - at) ended) _ rest)

    pub on-ready : ready_of modes.Records (length input - at) ended ≡ true
    on-ready = both_left (ready_of modes.Records (length input - at) ended) _ rest

    pub on-follows : follows_of input at mark size before ≡ true
    on-follows = both_right (ready_of modes.Records (length input - at) ended) _ rest

-- a number above the last one is not stale
pub above : (before sequence : ℕ) (body : Body) → before < sequence → stale_of before sequence body ≡ false
above before sequence body h = ap (λ (t : Bool). both t (numbered body)) (lt-leb sequence before h)

-- an AR is for no engine, and no record calls for another one where there is one
clock-calls : (c : Chosen) (input : List ℕ) (at : ℕ) → half_at input at ≡ letters 65 82 → called_of c input at ≡ false
clock-calls Only input at e = refl
clock-calls First input at e = unnamed input at 2 (ap carries_engine (clock-kind input at true e))
clock-calls Second input at e = unnamed input at 1 (ap carries_engine (clock-kind input at true e))

pub one-calls : (c : Chosen) (input : List ℕ) (at : ℕ) → two_of c ≡ false → called_of c input at ≡ false
one-calls Only input at e = refl
one-calls First input at e = absurd (never (sym e))
one-calls Second input at e = absurd (never (sym e))

-- the AR that follows
pub clock-in-order : (base : ℕ) (input : List ℕ) (at : ℕ) (ended : Bool) (put room : ℕ) (s : Session) → s.mode ≡ modes.Records
    → goes_on_with input at ended put room (letters 65 82) 22 s.sequence ≡ true
    → InOrder base input ended s at (word_at input (at + 2)) (Clock (get_or input (at + 6) 0) (clock_at input at (get_or input (at + 6) 0))) (at + 22)
clock-in-order base input at ended put room s mode g =
    let f = on-follows input at ended put room (letters 65 82) 22 s.sequence g in
    record {
      read = clock-follows input at s.sequence (eqb (base + at) 0) (two_of s.chosen) f;
      rises = above s.sequence (word_at input (at + 2)) (Clock (get_or input (at + 6) 0) (clock_at input at (get_or input (at + 6) 0))) (rises input at (letters 65 82) 22 s.sequence f);
      hand = clock-calls s.chosen input at (marked input at (letters 65 82) 22 s.sequence f);
      mode = mode;
      ready = on-ready input at ended put room (letters 65 82) 22 s.sequence g;
    }

-- the WR that follows, in a trace of one engine
pub write-in-order : (base : ℕ) (input : List ℕ) (at : ℕ) (ended : Bool) (put room : ℕ) (s : Session) → s.mode ≡ modes.Records → two_of s.chosen ≡ false
    → goes_on_with input at ended put room (letters 87 82) 12 s.sequence ≡ true
    → InOrder base input ended s at (word_at input (at + 2)) (Write (half_at input (at + 6)) (word_at input (at + 8))) (at + 12)
write-in-order base input at ended put room s mode one g =
    let f = on-follows input at ended put room (letters 87 82) 12 s.sequence g in
    record {
      read = ap (reading_of input at (eqb (base + at) 0)) one ∙ write-follows input at s.sequence (eqb (base + at) 0) f;
      rises = above s.sequence (word_at input (at + 2)) (Write (half_at input (at + 6)) (word_at input (at + 8))) (rises input at (letters 87 82) 12 s.sequence f);
      hand = one-calls s.chosen input at one;
      mode = mode;
      ready = on-ready input at ended put room (letters 87 82) 12 s.sequence g;
    }

-- what a record in order does
pub in-order-turn : {base : ℕ} {input : List ℕ} {ended : Bool} {s : Session} {at sequence : ℕ} {body : Body} {next : ℕ} (o : InOrder base input ended s at sequence body next) (lent : Lent)
    → record_turn_of s (base + at) input at lent ≡ turn_as (apply_of s sequence (base + at) input at lent body) next
in-order-turn {base} {input} {s = s} {at} o lent = ap (record_by s (base + at) input at lent) o.read ∙ sym (no _ o.rises refl)

-- a loop over WR records goes on: there is one engine
module _ (c : Chosen) (input : List ℕ) (at : ℕ) (ended : Bool) (put room before : ℕ) (g : goes_on_writing c input at ended put room before ≡ true) where
  pub writing-one : two_of c ≡ false
  writing-one = go (two_of c) (both_left (not (two_of c)) _ g)
    where
      go : (t : Bool) → not t ≡ true → t ≡ false
      go true e = absurd (never e)
      go false e = refl

  pub writing-on : goes_on_with input at ended put room (letters 87 82) 12 before ≡ true
  writing-on = both_right (not (two_of c)) _ g
