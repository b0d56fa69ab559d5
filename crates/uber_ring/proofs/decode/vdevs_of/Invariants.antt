use Rattle.std.proofs.Common.{◌≡◌, ◌≤◌, take}
use Rattle.std.specs.List.{flat_map, range_with_len}
use Rattle.vdev_map.specs.Numbers.{units_in}
use Rattle.vdev_map.specs.declared.layout.Head.{Head}
use Rattle.uber_ring.specs.TableBytes.{vdevs_in}
use Rattle.uber_ring.specs.TableFields.{Each, IsRight, vdev_fields}
use Rattle.uber_ring.specs.declared.slot.Uber.{Uber}
use Rattle.uber_ring.proofs.decode.vdevs_of.Given as goal

abbrev pub invariant-loop-v : goal.invariant-loop-v
invariant-loop-v l = record {
  rows : l.vdevs.items ≡ take l.v (vdevs_in l.bytes);
  units : l.units ≡ units_in (take l.v (vdevs_in l.bytes));
  few : l.units ≤ 4194304;
  right : (head : Head) (uber : Uber) → Each (IsRight head uber l.bytes) (flat_map vdev_fields (range_with_len 0 l.v));
}
