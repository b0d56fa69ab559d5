use Rattle.std.proofs.Common.{◌≡◌, ◌+◌, take}
use Rattle.vdev_map.specs.Numbers.{metaslabs_in}
use Rattle.vdev_map.proofs.ids.id_of.Given as goal

abbrev pub invariant-loop-vdev : goal.invariant-loop-vdev
invariant-loop-vdev l = metaslabs_in (take l.vdev l.vdevs) + l.rest ≡ l.fn.number
