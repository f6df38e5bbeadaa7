use mathlib.Core.Path.{◌≡◌, sym, ap, ◌∙◌, subst}
use mathlib.Core.Bool.{true, false}
use Prim.Native.Nat.{ℕ, ◌+◌}
use native.Mathlib.Omega.{arith}
use lib.ListN.{length}
use lib.Seq.{sets, length-sets}
use Rattle.sides.specs.Sides.{place_of, sides_moved}
use Rattle.sides.proofs.Places.{Period, period-twice, plain-written}
use Rattle.sides.proofs.Parts.{doubled}
use Rattle.sides.proofs.burst.fill.Goals as goal

pub loop-done-preserved : goal.loop-done-preserved
loop-done-preserved c =
    let v = c.loop-done in
    let a = c.args in
    let again = v.invariant.2 c.loop-done-test.true in (
      omega arith,
      omega arith,
      (λ l. subst (λ (d : ℕ). Period (place_of true a.width a.source) (v.done + d)) (omega arith) (period-twice _ _ again)),
      omega arith,
      omega arith,
      (λ s e. c.copy.ensures ∙ doubled s _ _ _ a.from v.done _ again (omega arith) (omega (arith, simp length-sets at (ap length e))) (v.invariant.5 s e)),
    )

pub returns : goal.returns
returns c =
    let v = c.loop-done in
    let a = c.args in
    let all : v.done ≡ a.count = omega arith in
    v.invariant.5 _
    (c.copy_part.ensures ∙ ap (sets _ _) c.read_word.ensures)
    ∙ sym (plain-written _ a.width a.destination a.from _)
    ∙ ap (sides_moved a.memory.now (place_of true a.width a.source) (place_of false a.width a.destination) a.from) all
