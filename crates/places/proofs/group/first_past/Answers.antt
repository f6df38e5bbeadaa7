use mathlib.Core.Path.{ap, ◌∙◌}
use mathlib.Core.Logic.{inl, inr}
use native.Mathlib.Omega.{arith}
use Rattle.std.proofs.Common.{Some}
use Rattle.places.proofs.Groups.{past-none, past-first}
use Rattle.places.proofs.group.first_past.Goals as goal

-- The lowest byte past the memory's end meets its contract.
pub returns-then-bytes-eq0 : goal.returns-then-bytes-eq0
returns-then-bytes-eq0 c ws = past-none _ ws _ _ (inl c.if-bytes-eq0.true)

pub returns-then-size-start : goal.returns-then-size-start
returns-then-size-start c ws = past-none _ ws _ _ (inr (omega arith))

pub returns : goal.returns
returns c ws = ap Some c.max.ensures ∙ past-first _ ws _ _ (omega arith) (omega arith)
