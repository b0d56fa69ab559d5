use Rattle.std.proofs.Common.{◌≡◌, ◌+◌, ◌*◌, ◌^◌, ◌≤◌, take}
use Rattle.vdev_map.specs.Numbers.{in_all}
use Rattle.vdev_map.specs.Places.{metaslab_len, metaslabs_place}
use Rattle.vdev_map.proofs.places.row_place.Given as goal

abbrev pub invariant-loop-row : goal.invariant-loop-row
invariant-loop-row l = record {
  place : l.place ≡ metaslabs_place l.head.form l.head.flush l.head.log + in_all (metaslab_len l.head.form) (take l.row-index l.row-items);
  bound : l.place ≤ 2 ^ 30 + l.row-index * 2 ^ 40;
}
