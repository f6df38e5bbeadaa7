-- The table has the numbers of the windows that are read.
use Rattle.std.proofs.Common.{◌*◌, ◌≡◌, take}
use Rattle.windows.specs.Flat.{flat_of}
use Rattle.windows.proofs.table.table_of.Given as goal

abbrev pub invariant-loop-window : goal.invariant-loop-window
invariant-loop-window l = record {
  count : l.table.count ≡ 2 * l.window-index;
  first : take l.table.count l.table.flat ≡ flat_of (take l.window-index l.window-items);
}
