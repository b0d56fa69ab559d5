use Rattle.std.proofs.Common.{◌≡◌, take, drop}
use Rattle.vdev_map.specs.Numbers.{metaslabs_in}
use Rattle.class_core.specs.Opening.{AreGroups}
use Rattle.class_core.proofs.making.groups_of.Given as goal

abbrev pub invariant-loop-vdev : goal.invariant-loop-vdev
invariant-loop-vdev l = AreGroups l.rows l.class l.fn.weights l.vdev l.groups.items × (l.rest ≡ drop (metaslabs_in (take l.vdev l.rows)) l.fn.weights)
