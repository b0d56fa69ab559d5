use Rattle.std.proofs.Common.{◌≡◌, ◌*◌, ◌^◌, ◌≤◌, take}
use Rattle.vdev_map.specs.Numbers.{units_in}
use Rattle.vdev_text.proofs.totals.units_in.Given as goal

abbrev pub invariant-loop-row : goal.invariant-loop-row
invariant-loop-row l = record {
  sum : l.units ≡ units_in (take l.row-index l.vdevs);
  bound : l.units ≤ l.row-index * 2 ^ 48;
}
