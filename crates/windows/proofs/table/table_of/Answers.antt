-- A turn adds the numbers of one window more.
use Rattle.std.proofs.Common.{◌∙◌, arith, take}
use Rattle.windows.proofs.Copies.{flat-next}
use Rattle.windows.proofs.table.table_of.Goals as goal

pub loop-window-preserved : goal.loop-window-preserved
loop-window-preserved c =
    let holds = rw c.loop-window.invariant.first at c.add-table.ensures.holds in
    record {
      count = omega arith;
      first = holds ∙ flat-next (take c.min-end.result c.args.windows.now) c.loop-window.window-index _ c.loop-window-test.true;
    }
