-- A pass that can take a turn puts a byte: a turn puts a line, or is silent, as a CF's opening and an ST are, and then the
-- next one can be taken too.
use mathlib.Core.Path.{◌≡◌, refl, sym, ap, subst, ◌∙◌}
use mathlib.Core.Logic.{◌⊎◌, inl, inr, ⊎_elim}
use Prim.Native.Nat.{ℕ, zero, suc, ◌+◌, ◌-◌, ◌≤◌, ◌<◌}
use mathlib.Core.Bool.{Bool, true, false}
use mathlib.Core.List.{List, [], ◌++◌}
use native.Mathlib.Omega.{arith}
use lib.ListN.{length, length-append}
use lib.Dec.{leb}
use borrow.Author.Tests.{le-leb, leb-true}
use Rattle.kit.proofs.Choice.{cases, never, both_left, both_right, both-join}
use Rattle.listing.specs.declared.line.Line.{Line}
use Rattle.listing.specs.Line.{line_of}
use Rattle.listing.proofs.Lines.{line-some}
use Rattle.record.specs.Starts.{settings_at}
use Rattle.session.specs.declared.Mode.{Mode}
use Rattle.session.specs.declared.Mode.TheVariants as modes
use Rattle.session.specs.declared.Session.{Session}
use Rattle.session.specs.declared.AfterPass.{AfterPass}
use Rattle.session.specs.Chosen.{called_of}
use Rattle.state.specs.declared.engine.Engine.{Engine}
use Rattle.session.specs.Effect.{text_of, settings_line_of, opening_of}
use Rattle.session.specs.Stepping.{step_line_of}
use Rattle.session.specs.Turn.{Turn, record_turn_of}
use Rattle.session.specs.Pass.{ready_of, ready_in, Replay, begin, open_on, swapped, next_on, turn_by, turn_on, turns_of, line_room, goes_on, Passes}
use Rattle.session.proofs.Turns.{turns-join}

module _ (base : ℕ) (input : List ℕ) where
  next_grows : (r : Replay) → length r.text ≤ length (next_on base input r).text
  next_grows r =
      let t = record_turn_of r.session (base + r.at) input r.at r.lent in
      omega (arith, length-append r.text (text_of t.effect.session.mode t.effect.line))

  grows : (r : Replay) → length r.text ≤ length (turn_on base input r).text
  unfolding turn_on
  grows r = go r.session.mode
    where
      go : (mode : Mode) → length r.text ≤ length (turn_by base input r mode).text
      go modes.Start = omega (arith, length-append r.text (opening_of r.session (settings_at input r.at)))
      go modes.Records =
          cases (λ (x : Replay). length r.text ≤ length (next_on base input x).text) (called_of r.session.chosen input r.at)
          (λ _. next_grows (swapped r)) (λ _. next_grows r)
      go (modes.Steps left taken) = omega (arith, length-append r.text (line_of (step_line_of r.session left taken r.lent).effect.line))
      go modes.Over = omega arith

  all-grow : (n : ℕ) (r : Replay) → length r.text ≤ length (turns_of n base input r).text
  unfolding turns_of
  all-grow zero r = omega arith
  all-grow (suc n) r = omega (arith, all-grow n r, grows (turns_of n base input r))

  -- x puts a byte after r, or is silent and can go on
  abbrev Tells : Bool → Replay → Replay → Type 0
  Tells ended r x = (length r.text < length x.text) ⊎ ((ready_in input ended x ≡ true) × (length x.text ≡ length r.text))

  next-tells : (ended : Bool) (r : Replay) → Tells ended r (next_on base input r)
  next-tells ended r = by t.effect.session.mode refl
    where
      t : Turn
      t = record_turn_of r.session (base + r.at) input r.at r.lent

      longer : (l : Line) → length r.text < length (r.text ++ line_of l)
      longer l = omega (arith, length-append r.text (line_of l), line-some l)

      read_as : {m : Mode} → t.effect.session.mode ≡ m → length (r.text ++ text_of t.effect.session.mode t.effect.line) ≡ length (r.text ++ text_of m t.effect.line)
      read_as f = ap (λ (m : Mode). length (r.text ++ text_of m t.effect.line)) f

      by : (mode : Mode) → t.effect.session.mode ≡ mode → Tells ended r (next_on base input r)
      by modes.Start f = inl (omega (arith, read_as f, longer t.effect.line))
      by modes.Records f = inl (omega (arith, read_as f, longer t.effect.line))
      by (modes.Steps left taken) f =
          inr (ap (λ (m : Mode). ready_of m (length input - t.at) ended) f, read_as f ∙ omega (arith, length-append r.text []))
      by modes.Over f = inl (omega (arith, read_as f, longer t.effect.line))

  tells : (ended : Bool) (r : Replay) → ready_in input ended r ≡ true → Tells ended r (turn_on base input r)
  unfolding turn_on
  tells ended r ready = go r.session.mode ready
    where
      longer : (l : Line) → length r.text < length (r.text ++ line_of l)
      longer l = omega (arith, length-append r.text (line_of l), line-some l)

      same : length (r.text ++ []) ≡ length r.text
      same = omega (arith, length-append r.text [])

      opens : ready_of modes.Records (length input - r.at) ended ≡ true → (settings : Bool) → Tells ended r (open_on r settings)
      opens e true = inr (e, same)
      opens e false = inl (longer (settings_line_of r.session.sequence r.session.engine.settings.width r.session.engine.settings.beats))

      go : (mode : Mode) → ready_of mode (length input - r.at) ended ≡ true → Tells ended r (turn_by base input r mode)
      go modes.Start e = opens e (settings_at input r.at)
      go modes.Records e =
          cases (λ (x : Replay). Tells ended r (next_on base input x)) (called_of r.session.chosen input r.at)
          (λ _. next-tells ended (swapped r)) (λ _. next-tells ended r)
      go (modes.Steps left taken) e = inl (longer (step_line_of r.session left taken r.lent).effect.line)
      go modes.Over e = absurd (never e)

  some-taken : (room : ℕ) (ended : Bool) (n : ℕ) (r : Replay) → goes_on room input ended r ≡ true → goes_on room input ended (turns_of n base input r) ≡ false
      → length r.text < length (turns_of n base input r).text
  unfolding turns_of
  some-taken room ended zero r go stop = absurd (never (sym stop ∙ go))
  some-taken room ended (suc n) r go stop =
      let first = turn_on base input r in
      let one : 1 + n ≡ suc n = omega arith in
      let later : turns_of (suc n) base input r ≡ turns_of n base input first = sym (ap (λ (k : ℕ). turns_of k base input r) one) ∙ turns-join 1 n base input r in
      let length-later = ap (λ (x : Replay). length x.text) later in
      ⊎_elim {C = length r.text < length (turns_of (suc n) base input r).text} (λ h. omega (arith, all-grow n first, length-later))
      (λ h. let free = leb-true (length r.text + line_room) room (both_left (leb (length r.text + line_room) room) (ready_in input ended r) go) in
      let on : goes_on room input ended first ≡ true = both-join (le-leb (length first.text + line_room) room (omega (arith, h.1, free))) h.0 in
      omega (arith, h.1, some-taken room ended n first on (subst (λ (x : Replay). goes_on room input ended x ≡ false) later stop), length-later))
      (tells ended r (both_right (leb (length r.text + line_room) room) (ready_in input ended r) go))

-- a pass that can take a turn puts a byte
pub pass-puts : {s : Session} {o : Engine} {base : ℕ} {input : List ℕ} {ended : Bool} {m w out : List ℕ} {r : AfterPass} {m' w' out' : List ℕ}
    → Passes s o base input ended m w out r m' w' out' → goes_on (length out) input ended (begin s m w o) ≡ true → 0 < r.put
pass-puts {s} {o} {base} {input} {ended} {m} {w} {out} p go =
    omega (arith, p.put, ap (λ (x : Replay). length x.text) p.ends, some-taken base input (length out) ended p.turns (begin s m w o) go p.stops)
