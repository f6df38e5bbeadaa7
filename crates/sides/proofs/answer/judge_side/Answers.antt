use mathlib.Core.Path.{sym, ◌∙◌}
use Rattle.sides.proofs.Answers.{plain-answer}
use Rattle.sides.proofs.answer.judge_side.Goals as goal

-- The verdict of a side meets its contract.
pub returns : goal.returns
returns c = rw c.if-side.false (c.judge.ensures ∙ sym (plain-answer _ _ c.args.width _ _ _))
