use Rattle.std.proofs.Common.{◌≡◌, take}
use Rattle.vdev_map.specs.Numbers.{metaslabs_in}
use Rattle.vdev_map.proofs.ids.number_of.Given as goal

abbrev pub invariant-loop-row : goal.invariant-loop-row
invariant-loop-row l = l.before ≡ metaslabs_in (take l.row-index l.row-items)
