use mathlib.Core.Path.{◌≡◌, sym, ap₂, ◌∙◌}
use native.Mathlib.Omega.{arith}
use Rattle.std.proofs.Common.{rules}
use Rattle.memory.specs.Verdict.{worse}
use Rattle.sides.proofs.Answers.{answer-past, answer-least}
use Rattle.sides.proofs.Words.{word-again, word-answer}
use Rattle.sides.proofs.answer.judge_word.Goals as goal

-- The verdict of a fixed word meets its contract.
pub returns-then-start-ge-MOST_MEMORY : goal.returns-then-start-ge-MOST_MEMORY
returns-then-start-ge-MOST_MEMORY c = answer-past _ _ _ _ _ (omega arith) (omega arith)

pub returns : goal.returns
returns c =
    let p = c.args in
    let worst : c.max.result ≡ worse c.judge-upper.result c.judge-lower.result = search rules in
    worst
    ∙ ap₂ worse c.judge-upper.ensures c.judge-lower.ensures
    ∙ sym (word-answer p.width p.start p.from _ _ c.requires.0 (omega arith) c.min-first.ensures _ _)
    ∙ sym (answer-least _ _ _ p.width c.requires.0 (word-again _ p.start) p.from p.count _ c.min-used.ensures)
