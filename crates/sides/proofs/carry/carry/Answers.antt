use mathlib.Core.Path.{◌≡◌, sym, ◌∙◌}
use Rattle.std.proofs.Common.{rules}
use Rattle.kit.proofs.Choice.{neither}
use Rattle.memory.specs.declared.verdict.Verdict.TheVariants.{Okay}
use Rattle.memory.proofs.Groups.{pair-okay-fits}
use Rattle.sides.proofs.Answers.{plain-pair}
use Rattle.sides.proofs.Moves.{plain_moved}
use Rattle.sides.proofs.carry.carry.Goals as goal

-- two groups that answer OKAY lie in the memory
pub copy-requires : goal.copy-requires
copy-requires c =
    let p = c.requires.width_nonzero in
    let okay : c.judge_pair-verdict.result ≡ Okay = search rules in
    let fits = pair-okay-fits _ _ _ _ _ (sym c.judge_pair-verdict.ensures ∙ okay) p.2 in
    (fits.0, fits.1, p.3)

pub returns-then-eq-clause-value : goal.returns-then-eq-clause-value
returns-then-eq-clause-value c =
    let a = c.args in
    c.judge_pair-verdict.ensures
    ∙ plain-pair _ _ a.source.fixed a.destination.fixed a.width _ _ _ _ (sym c.either.ensures ∙ c.if-either.false)

pub returns-then-eq-clause-memory_after : goal.returns-then-eq-clause-memory_after
returns-then-eq-clause-memory_after c =
    let a = c.args in
    let okay : c.judge_pair-verdict.result ≡ Okay = search rules in
    let fits = pair-okay-fits _ _ _ _ _ (sym c.judge_pair-verdict.ensures ∙ okay) c.requires.width_nonzero.2 in
    let plain = neither a.source.fixed a.destination.fixed (sym c.either.ensures ∙ c.if-either.false) in
    rw (okay, plain.0, plain.1) (c.copy.ensures ∙ sym (plain_moved _ a.width _ _ _ _ fits.0))

pub returns-else-eq-clause-value : goal.returns-else-eq-clause-value
returns-else-eq-clause-value c =
    let a = c.args in
    c.judge_pair-verdict.ensures
    ∙ plain-pair _ _ a.source.fixed a.destination.fixed a.width _ _ _ _ (sym c.either.ensures ∙ c.if-either.false)
