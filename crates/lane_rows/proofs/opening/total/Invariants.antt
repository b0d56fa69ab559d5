use Rattle.std.proofs.Common.{◌≡◌, ◌*◌, ◌≤◌, take}
use Rattle.vdev_map.specs.Numbers.{metaslabs_in}
use Rattle.lane_rows.proofs.opening.total.Given as goal

abbrev pub invariant-loop-row : goal.invariant-loop-row
invariant-loop-row l = record {
  sum : l.metaslabs ≡ metaslabs_in (take l.row-index l.vdevs);
  bound : l.metaslabs ≤ l.row-index * 65536;
}
