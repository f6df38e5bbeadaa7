use mathlib.Core.Path.{sym, ◌∙◌}
use mathlib.Core.Logic.{inl, inr}
use native.Mathlib.Omega.{arith}
use Rattle.memory.proofs.Groups.{pair-none, pair-decode, pair-slave, pair-okay}
use Rattle.memory.proofs.verdict.judge_pair.Goals as goal

-- The verdict of two groups meets its contract.
pub returns-then-bytes-eq0 : goal.returns-then-bytes-eq0
returns-then-bytes-eq0 c = pair-none _ _ _ _ _ c.if-bytes-eq0.true

pub returns-then-size-count : goal.returns-then-size-count
returns-then-size-count c = pair-decode _ _ _ _ _ (omega arith) (inl (omega arith))

pub returns-then-last-first : goal.returns-then-last-first
returns-then-last-first c = pair-decode _ _ _ _ _ (omega arith) (inl (omega arith))

pub returns-then-last-second : goal.returns-then-last-second
returns-then-last-second c = pair-decode _ _ _ _ _ (omega arith) (inr (omega arith))

pub returns-then-any_meets : goal.returns-then-any_meets
returns-then-any_meets c =
    pair-slave _ _ _ _ _ (omega arith) (omega arith) (omega arith) (sym c.any_meets.ensures ∙ c.if-any_meets.true)

pub returns : goal.returns
returns c =
    pair-okay _ _ _ _ _ (omega arith) (omega arith) (omega arith) (sym c.any_meets.ensures ∙ c.if-any_meets.false)
