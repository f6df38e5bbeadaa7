-- Each turn gets on.
use mathlib.Core.Path.{◌≡◌, refl, sym, ap, ap₂, subst, ◌∙◌}
use mathlib.Core.Logic.{◌⊎◌, inl, inr}
use Prim.Native.Nat.{ℕ, zero, suc, ◌+◌, ◌-◌, ◌≤◌, ◌<◌}
use mathlib.Core.Bool.{Bool, true, false}
use mathlib.Core.List.{List}
use native.Mathlib.Omega.{arith}
use lib.ListN.{length}
use lib.IntN.{ℤ, pos, negsuc}
use lib.Dec.{ltb, leb}
use borrow.Author.Tests.{ltb-false, le-leb, eq-eqb}
use Rattle.kit.specs.Choice.{when, both}
use Rattle.kit.proofs.Choice.{never, both-join}
use Rattle.record.specs.Claims.{longest}
use Rattle.session.specs.declared.Mode.{Mode}
use Rattle.session.specs.declared.Mode.TheVariants.{Start, Records, Steps, Over}
use Rattle.session.specs.declared.Session.{Session}
use Rattle.session.specs.Pass.{ready_of, line_room}
use Rattle.flow.specs.declared.flow.Flow.{Flow}
use Rattle.flow.specs.Flow.{room, left_of, pending, Fits, wants_of, after_read, finished_of, over_of}
use Rattle.flow.specs.Input.{Refills}
use Rattle.replay.specs.Turn.{Forwards, read_of, interrupted_by, Prints, Interrupted, Progress}
use Rattle.flow.proofs.Pending.{pending-length, refill-kept, refill-fits}
use Rattle.replay.proofs.Places.{used-within}
use Rattle.whole.proofs.Progress.{pass-puts}
use Rattle.replay.proofs.Passes.{pass-idle}

-- no record can be cut off by the end of the pending bytes
abbrev Enough : Flow → Type 0
Enough f = (f.ended ≡ true) ⊎ (longest ≤ left_of f)

-- with enough pending, what cannot take a turn is finished
finished : (mode : Mode) (left : ℕ) (ended : Bool) → ready_of mode left ended ≡ false → (ended ≡ true) ⊎ (longest ≤ left) → finished_of mode left ended ≡ true
finished Over left ended e h = refl
finished (Steps n taken) left ended e h = absurd (never (sym e))
finished Start left true e h = eq-eqb left 0 (omega (arith, ltb-false 0 left e))
finished Start left false e (inl h) = absurd (never h)
finished Start left false e (inr h) = absurd (never (sym e ∙ le-leb longest left h))
finished Records left true e h = eq-eqb left 0 (omega (arith, ltb-false 0 left e))
finished Records left false e (inl h) = absurd (never h)
finished Records left false e (inr h) = absurd (never (sym e ∙ le-leb longest left h))

unsent : (sent : Bool) (mode : Mode) (left : ℕ) (ended : Bool) → finished_of mode left ended ≡ true → over_of sent mode left ended ≡ true
unsent true mode left ended h = h
unsent false mode left ended h = refl

module _ {f : Flow} {b m w out : List ℕ} {r : Flow} {m' w' out' : List ℕ} (fits : Fits f b) (size : length out ≡ room) (t : Forwards f b m w out r m' w' out') where
  roomy : leb (0 + line_room) (length out) ≡ true
  roomy = le-leb (0 + line_room) (length out) (omega (arith, size))

  put-or-over : Enough f → (r.over ≡ true) ⊎ (0 < t.passed.put)
  put-or-over enough = go (ready_of f.session.mode (length (pending f b) - 0) f.ended) refl
    where
      left : length (pending f b) - 0 ≡ left_of f
      left = omega (arith, pending-length f b fits)

      go : (v : Bool) → ready_of f.session.mode (length (pending f b) - 0) f.ended ≡ v → (r.over ≡ true) ⊎ (0 < t.passed.put)
      go true e = inr (pass-puts t.passes (both-join roomy e))
      go false e =
          let idle = pass-idle t.passes (ap₂ both roomy e) in
          let unmoved : f.filled - (f.at + t.passed.at) ≡ left_of f = omega (arith, idle.1) in
          let can-not = sym (ap (λ (n : ℕ). ready_of f.session.mode n f.ended) left) ∙ e in
          inl
          (ap (λ (x : Flow). x.over) t.is
          ∙ ap₂ (λ (mode : Mode) (n : ℕ). over_of t.sent mode n f.ended) (ap (λ (s : Session). s.mode) idle.0) unmoved
          ∙ unsent t.sent f.session.mode (left_of f) f.ended (finished f.session.mode (left_of f) f.ended can-not enough))

  -- what was read before the pass, used or not, is what was read after it
  read_same : read_of r ≡ read_of f
  read_same = ap read_of t.is ∙ omega (arith, used-within fits t, fits.begins)

-- a refill leaves enough, or reads, or its read was interrupted or failed
data Refilled (f : Flow) (answer : ℤ) (interrupted : Bool) (r : Flow) : Type 0 where
  enough : Enough r → Refilled f answer interrupted r
  reads : left_of f < left_of r → Refilled f answer interrupted r
  again : interrupted_by answer interrupted ≡ true → Refilled f answer interrupted r
  failed : r.over ≡ true → Refilled f answer interrupted r

read-refilled : (f : Flow) (answer : ℤ) (interrupted : Bool) → Refilled f answer interrupted (after_read f answer interrupted)
read-refilled f (pos zero) interrupted = enough (inl (eq-eqb 0 0 refl))
read-refilled f (pos (suc n)) interrupted = reads (omega arith)
read-refilled f (negsuc n) true = again refl
read-refilled f (negsuc n) false = failed refl

kept-refilled : (f : Flow) (answer : ℤ) (interrupted : Bool) → wants_of f ≡ false → Refilled f answer interrupted f
kept-refilled f answer interrupted e = enough (go f.ended refl e)
  where
    go : (v : Bool) → f.ended ≡ v → when v false (ltb (left_of f) longest) ≡ false → (f.ended ≡ true) ⊎ (longest ≤ left_of f)
    go true k e = inl k
    go false k e = inr (ltb-false (left_of f) longest e)

refilled : {f : Flow} {b : List ℕ} {r : Flow} {b' : List ℕ} (t : Refills f b r b') → Refilled f t.answer t.interrupted r
refilled {f} t = subst (Refilled f t.answer t.interrupted) (sym t.is) (go (wants_of f) refl)
  where
    go : (v : Bool) → wants_of f ≡ v → Refilled f t.answer t.interrupted (when v (after_read f t.answer t.interrupted) f)
    go true e = read-refilled f t.answer t.interrupted
    go false e = kept-refilled f t.answer t.interrupted e

pub progress : Progress
progress f b m w out r b' m' w' out' fits size t = go t.middle.over refl
  where
    kept : Fits t.middle b'
    kept = refill-fits fits t.refills

    on : (e : t.middle.over ≡ false) → Refilled f t.refills.answer t.refills.interrupted t.middle
        → (r.over ≡ true) ⊎ ((read_of f < read_of r) ⊎ (Prints t ⊎ Interrupted t))
    on e (enough h) = put (put-or-over kept size (t.goes e) h)
      where
        put : (r.over ≡ true) ⊎ (0 < (t.goes e).passed.put) → (r.over ≡ true) ⊎ ((read_of f < read_of r) ⊎ (Prints t ⊎ Interrupted t))
        put (inl o) = inl o
        put (inr p) = inr (inr (inl (record { passes = e; puts = p })))
    on e (reads h) = inr (inl (omega (arith, read_same kept size (t.goes e), (refill-kept fits t.refills).place, h)))
    on e (again h) = inr (inr (inr h))
    on e (failed h) = absurd (never (sym e ∙ h))

    go : (v : Bool) → t.middle.over ≡ v → (r.over ≡ true) ⊎ ((read_of f < read_of r) ⊎ (Prints t ⊎ Interrupted t))
    go true e = inl (ap (λ (x : Flow). x.over) (t.stops e).0 ∙ e)
    go false e = on e (refilled t.refills)
