use Rattle.std.proofs.Common.{◌≡◌, ◌*◌, ◌^◌, ◌≤◌, take}
use Rattle.vdev_map.specs.Numbers.{metaslabs_in}
use Rattle.uber_ring.specs.TableBytes.{vdevs_in}
use Rattle.uber_ring.proofs.front.metaslabs_of.Given as goal

abbrev pub invariant-loop-v : goal.invariant-loop-v
invariant-loop-v l = record {
  sum : l.metaslabs ≡ metaslabs_in (take l.v (vdevs_in l.bytes));
  bound : l.metaslabs ≤ l.v * 2 ^ 32;
}
