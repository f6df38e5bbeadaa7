use mathlib.Core.Path.{ap, ◌∙◌}
use mathlib.Core.Logic.{inl, inr}
use Prim.Native.Nat.{ℕ, ◌+◌}
use native.Mathlib.Omega.{arith}
use Rattle.std.proofs.Common.{Some}
use Rattle.places.proofs.Groups.{sick-none, sick-first}
use Rattle.places.proofs.group.first_sick.Goals as goal

-- The lowest byte that a window holds meets its contract: it is the first that is not good.
pub returns-then-good-bytes : goal.returns-then-good-bytes
returns-then-good-bytes c = sick-none _ _ _ _ (inl (omega (arith, c.good_bytes-good.ensures, c.if-good-bytes.true)))

pub returns-then-at-size : goal.returns-then-at-size
returns-then-at-size c = sick-none _ _ _ _ (inr (omega (arith, c.good_bytes-good.ensures, c.if-at-size.true)))

pub returns : goal.returns
returns c =
    let a = c.args in
    let e = c.good_bytes-good.ensures in
    ap (λ (n : ℕ). Some (a.start + n)) e ∙ sick-first _ _ _ _ (omega (arith, e, c.if-good-bytes.false)) (omega (arith, e, c.if-at-size.false))
