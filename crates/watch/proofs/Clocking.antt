-- What an AR record in order does, by what judging its clock gave.
use mathlib.Core.Path.{◌≡◌, refl, sym, ap, subst, ◌∙◌}
use mathlib.Core.Bool.{Bool, true, false}
use mathlib.Core.List.{List}
use Prim.Native.Nat.{ℕ, ◌+◌}
use lib.Dec.{eqb, ltb}
use lib.ListN.{get_or}
use Rattle.kit.specs.Choice.{when}
use Rattle.kit.specs.Word.{word_at}
use Rattle.kit.specs.declared.answer.Refusal.{Refusal}
use Rattle.kit.specs.Answer.{number_of}
use Rattle.kit.proofs.Numbers.{refusal-some}
use Rattle.kit.proofs.Choice.{no}
use Rattle.monitor.specs.declared.clock.Clock.{Clock}
use Rattle.monitor.specs.declared.monitor.Monitor.{Monitor}
use Rattle.monitor.specs.Monitor.{Seen, refused, lowest_of, bus_clock_of}
use Rattle.record.specs.Mark.{letters}
use Rattle.record.specs.Reading.{clock_at}
use Rattle.session.specs.declared.Mode.TheVariants.{Records}
use Rattle.session.specs.declared.Session.{Session}
use Rattle.session.specs.declared.Effect.{Effect}
use Rattle.session.specs.Effect.{Lent, after, bad_of, clock_line_of, clock_of}
use Rattle.session.specs.Turn.{apply_of}
use Rattle.session.specs.Pass.{goes_on_with, InOrder}
use Rattle.session.proofs.Following.{clock-in-order}
use Rattle.watch.specs.Judged.{clock_body, judged_of}

-- a session in the midst of its AR records
abbrev pub clocking : Session → Monitor → ℕ → Session
clocking s m before = record { engine = s.engine; monitor = m; sequence = before; windows = s.windows; chosen = s.chosen; mode = s.mode }

-- a clock that was taken
abbrev pub clocked_of : Session → ℕ → ℕ → Monitor → Effect
clocked_of s sequence count m = record { session = clocking s m sequence; line = clock_line_of sequence count (lowest_of m) }

-- either way
abbrev result_of : Session → ℕ → ℕ → Seen → Effect
result_of s sequence position v = when (eqb v.number 0) (clocked_of s sequence v.count v.monitor) (bad_of s v.number position)

by-judged : (s : Session) (sequence bits : ℕ) (clock : Clock) (position : ℕ)
    → clock_of s sequence bits clock position ≡ result_of s sequence position (judged_of s.monitor s.engine.settings bits clock)
by-judged s sequence bits clock position = by (ltb 7 bits)
  where
    by : (t : Bool) → when t (bad_of s 13 position) (result_of s sequence position (bus_clock_of s.monitor s.engine.settings.width s.engine.settings.beats clock))
        ≡ result_of s sequence position (when t (record { number = 13; count = 0; monitor = s.monitor }) (bus_clock_of s.monitor s.engine.settings.width s.engine.settings.beats clock))
    by true = refl
    by false = refl

module _ (s : Session) (sequence bits : ℕ) (clock : Clock) (position : ℕ) (input : List ℕ) (at : ℕ) where
  by-seen : {v : Seen} → v ≡ judged_of s.monitor s.engine.settings bits clock → clock_of s sequence bits clock position ≡ result_of s sequence position v
  by-seen j = by-judged s sequence bits clock position ∙ ap (result_of s sequence position) (sym j)

  -- refused
  pub as-refused : (refusal : Refusal) → refused (number_of refusal) s.monitor ≡ judged_of s.monitor s.engine.settings bits clock
      → (lent : Lent) → after (bad_of s (number_of refusal) position) lent ≡ apply_of s sequence position input at lent (clock_body bits clock)
  unfolding apply_of
  as-refused refusal j lent = ap (λ (e : Effect). after e lent) (no _ (refusal-some refusal) refl ∙ sym (by-seen j))

  -- taken
  pub as-taken : {count : ℕ} {m : Monitor} → record { number = 0; count = count; monitor = m } ≡ judged_of s.monitor s.engine.settings bits clock
      → (lent : Lent) → after (clocked_of s sequence count m) lent ≡ apply_of s sequence position input at lent (clock_body bits clock)
  unfolding apply_of
  as-taken j lent = ap (λ (e : Effect). after e lent) (sym (by-seen j))

-- the AR record that follows, as it was read
pub clock-order : (base : ℕ) (input : List ℕ) (at : ℕ) (ended : Bool) (put room : ℕ) (s : Session) → s.mode ≡ Records
    → goes_on_with input at ended put room (letters 65 82) 22 s.sequence ≡ true
    → {sequence bits : ℕ} {clock : Clock} → sequence ≡ word_at input (at + 2) → bits ≡ get_or input (at + 6) 0 → clock ≡ clock_at input at bits
    → InOrder base input ended s at sequence (clock_body bits clock) (at + 22)
clock-order base input at ended put room s mode g {sequence} {bits} {clock} n b c =
    let first = clock-in-order base input at ended put room s mode g in
    let second = subst (λ (x : ℕ). InOrder base input ended s at x (clock_body (get_or input (at + 6) 0) (clock_at input at (get_or input (at + 6) 0))) (at + 22)) (sym n) first in
    let third = subst (λ (x : ℕ). InOrder base input ended s at sequence (clock_body x (clock_at input at x)) (at + 22)) (sym b) second in
    subst (λ (x : Clock). InOrder base input ended s at sequence (clock_body bits x) (at + 22)) (sym c) third
