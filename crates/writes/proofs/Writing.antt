-- What a WR record in order does, and the WR record that follows, as it was read.
use mathlib.Core.Path.{◌≡◌, sym, ap, subst}
use mathlib.Core.Bool.{Bool, true}
use mathlib.Core.List.{List}
use Prim.Native.Nat.{ℕ, ◌+◌}
use Rattle.kit.specs.Word.{word_at, half_at}
use Rattle.registers.specs.Write as registers-written
use Rattle.record.specs.declared.reading.Body.TheVariants.{Write}
use Rattle.session.specs.declared.Mode.TheVariants.{Records}
use Rattle.session.specs.declared.Session.{Session}
use Rattle.session.specs.declared.Effect.{Effect}
use Rattle.session.specs.Effect.{Lent, after, with_engine, write_line_of}
use Rattle.session.specs.Turn.{apply_of}
use Rattle.session.specs.Pass.{goes_on_writing, InOrder}
use Rattle.session.proofs.Following.{write-in-order, writing-one, writing-on}

-- a write that was judged
abbrev pub written_of : Session → ℕ → ℕ → registers-written.AfterWrite → Effect
written_of s sequence offset v = record { session = with_engine s sequence v.engine; line = write_line_of sequence offset v.answer }

pub as_written : (s : Session) (sequence offset value position : ℕ) (input : List ℕ) (at : ℕ) {v : registers-written.AfterWrite} → v ≡ registers-written.write_of s.engine offset value
    → (lent : Lent) → after (written_of s sequence offset v) lent ≡ apply_of s sequence position input at lent (Write offset value)
unfolding apply_of
as_written s sequence offset value position input at j lent = ap (λ (v : registers-written.AfterWrite). after (written_of s sequence offset v) lent) j

pub write-order : (base : ℕ) (input : List ℕ) (at : ℕ) (ended : Bool) (put room : ℕ) (s : Session) → s.mode ≡ Records
    → goes_on_writing s.chosen input at ended put room s.sequence ≡ true
    → {sequence offset value : ℕ} → sequence ≡ word_at input (at + 2) → offset ≡ half_at input (at + 6) → value ≡ word_at input (at + 8)
    → InOrder base input ended s at sequence (Write offset value) (at + 12)
write-order base input at ended put room s mode g {sequence} {offset} {value} n o v =
    let first = write-in-order base input at ended put room s mode (writing-one s.chosen input at ended put room s.sequence g) (writing-on s.chosen input at ended put room s.sequence g) in
    let second = subst (λ (x : ℕ). InOrder base input ended s at x (Write (half_at input (at + 6)) (word_at input (at + 8))) (at + 12)) (sym n) first in
    let third = subst (λ (x : ℕ). InOrder base input ended s at sequence (Write x (word_at input (at + 8))) (at + 12)) (sym o) second in
    subst (λ (x : ℕ). InOrder base input ended s at sequence (Write offset x) (at + 12)) (sym v) third
