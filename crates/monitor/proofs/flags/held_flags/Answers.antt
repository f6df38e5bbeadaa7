use mathlib.Core.Path.{refl}
use Rattle.kit.proofs.Choice.{yes}
use Rattle.monitor.specs.Flags.{held_flags, held_table, raise}
use Rattle.monitor.proofs.Raise.{line, joined}
use Rattle.monitor.proofs.flags.held_flags.Goals as goal

-- the table, line by line
pub returns : goal.returns
unfolding held_flags held_table raise
returns c =
    let k = c.args in
    yes _ c.if-not-before.false
    (joined k.flags (held_table k.before k.clock)
    (line 56 _ (line 55 _ (line 54 _ (line 53 _ (line 52 _ (line 50 _ (line 49 _ (line 48 _ (line 47 _ (line 46 _ (refl {a = 0}) c.choose-raised.ensures) c.choose-raised-2.ensures) c.choose-raised-3.ensures) c.choose-raised-4.ensures) c.choose-raised-5.ensures)
    c.choose-raised-6.ensures) c.choose-raised-7.ensures) c.choose-raised-8.ensures) c.choose-raised-9.ensures) c.choose-raised-10.ensures))
