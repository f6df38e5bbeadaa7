use mathlib.Core.Path.{refl}
use borrow.Author.Tests.{not-false}
use Rattle.kit.proofs.Choice.{yes}
use Rattle.monitor.specs.Flags.{valid_flags, valid_table, raise}
use Rattle.monitor.proofs.Raise.{line, rule, joined}
use Rattle.monitor.proofs.flags.valid_flags.Goals as goal

-- the table, line by line
pub returns : goal.returns
unfolding valid_flags valid_table raise
returns c =
    let k = c.args in
    yes _ (not-false k.burst.clock.valid c.if-not-clock.false)
    (joined k.flags (valid_table k.width k.before k.burst.clock)
    (line 45 _ (rule 44 (rule 43 (rule 42 (rule 41 (line 39 _ (rule 38 (rule 37 (refl {a = 0}) c.choose-raised.ensures c.page_crossed.ensures)
    c.choose-raised-2.ensures c.wrap_unaligned.ensures) c.choose-raised-3.ensures)
    c.choose-raised-4.ensures c.cache_wrong.ensures) c.choose-raised-5.ensures c.fixed_long.ensures)
    c.choose-raised-6.ensures c.wrap_beats.ensures) c.choose-raised-7.ensures c.size_above.ensures) c.choose-raised-8.ensures))
