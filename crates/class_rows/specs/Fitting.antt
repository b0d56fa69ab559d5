-- A class has the vdevs and the metaslabs of the rows that are of it.
use Rattle.std.specs.Prelude.{◌≡◌, ℕ, List}
use Rattle.zms_units.specs.declared.places.Class.{Class}
use Rattle.zms_units.specs.declared.places.VdevRow.{VdevRow}
use Rattle.vdev_map.specs.Numbers.{row_at}
use Rattle.class_model.specs.Replay.{IsVdevOf, metaslabs_of}
use Rattle.class_model.specs.declared.origin.ClassOrigin.{ClassOrigin}
use Rattle.class_core.specs.Classes.{HasClass}

pub record IsClassOf (rows : List VdevRow) (of : Class) (o : ClassOrigin) : Type 0 where
  pub vdevs : (v : ℕ) → HasClass rows of v → IsVdevOf o v
  pub metaslabs : (v : ℕ) → IsVdevOf o v → metaslabs_of o v ≡ (row_at rows v).metaslabs
