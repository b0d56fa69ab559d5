use Rattle.std.proofs.Common.{◌≤◌}
use Rattle.vdev_map.specs.Numbers.{metaslabs_in}
use Rattle.meta_store.specs.FirstGroups.{AreFirstRows}
use Rattle.meta_store.proofs.creating.first_rows.Given as goal

abbrev pub invariant-loop-number : goal.invariant-loop-number
invariant-loop-number l = record {
  within : l.number ≤ metaslabs_in l.vdevs;
  rows : AreFirstRows l.head l.vdevs l.number l.rows.items;
}
