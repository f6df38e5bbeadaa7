use mathlib.Core.Path.{◌≡◌, sym, ◌∙◌}
use Rattle.std.proofs.Common.{rules}
use Rattle.memory.specs.declared.verdict.Verdict.TheVariants.{Okay}
use Rattle.sides.proofs.Answers.{sides-inside}
use Rattle.sides.proofs.carry.carry_fixed.Goals as goal

-- what answers OKAY lies in the memory
pub move_bytes-requires-clause-inside : goal.move_bytes-requires-clause-inside
move_bytes-requires-clause-inside c =
    let okay : c.judge_sides-verdict.result ≡ Okay = search rules in
    (sides-inside _ _ _ _ _ _ (sym c.judge_sides-verdict.ensures ∙ okay)).0

pub move_bytes-requires-clause-inside_2 : goal.move_bytes-requires-clause-inside_2
move_bytes-requires-clause-inside_2 c =
    let okay : c.judge_sides-verdict.result ≡ Okay = search rules in
    (sides-inside _ _ _ _ _ _ (sym c.judge_sides-verdict.ensures ∙ okay)).1
