-- The text by which vdevs are asked for. Reading it is the inverse.
use Rattle.std.specs.Prelude.{◌≡◌, ℕ, ◌≤◌, List, [], ◌∷◌, map, decimal}
use Rattle.std.specs.List.{join_with_byte}
use Rattle.zms_units.specs.Classes.{class_word}
use Rattle.zms_units.specs.declared.places.VdevRow.{VdevRow}
use Rattle.vdev_map.specs.Limits.{IsShift, IsUnits, AreVdevs}

-- a number of at least and at most so many
pub record IsBetween (least most n : ℕ) : Type 0 where
  pub low : least ≤ n
  pub high : n ≤ most

-- a vdev within the limits that it has to keep by itself
pub record IsVdev (row : VdevRow) : Type 0 where
  pub shift : IsShift row.ashift
  pub units : IsUnits row.units
  pub metaslabs : IsBetween 1 1024 row.metaslabs

-- a vdev, as `CLASS:ASHIFT:UNITS:METASLABS`
abbrev pub vdev_text : VdevRow → List ℕ
vdev_text row = join_with_byte 58 (class_word row.class ∷ (decimal row.ashift ∷ (decimal row.units ∷ (decimal row.metaslabs ∷ []))))

-- vdevs, with a comma between each two
abbrev pub spec_text : List VdevRow → List ℕ
spec_text rows = join_with_byte 44 (map vdev_text rows)

-- the text asks for these vdevs, which a pool may have
pub record IsSpec (text : List ℕ) (rows : List VdevRow) : Type 0 where
  pub vdevs : AreVdevs rows
  pub text_is : spec_text rows ≡ text
