use Rattle.std.proofs.Common.{◌≡◌, ◌*◌, ◌≤◌, take}
use Rattle.vdev_map.specs.Numbers.{metaslabs_in}
use Rattle.zdb_report.proofs.classes.metaslab_count.Given as goal

abbrev pub invariant-loop-row : goal.invariant-loop-row
invariant-loop-row l = record {
  sum : l.count ≡ metaslabs_in (take l.row-index l.vdevs);
  bound : l.count ≤ l.row-index * 65536;
}
