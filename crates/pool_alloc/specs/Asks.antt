-- What an allocation asks for, and what lies where on a vdev.
use Rattle.std.specs.Prelude.{◌≡◌, ℕ, ◌+◌, ◌*◌, ◌^◌, List, [], ◌∷◌}
use Rattle.zms_units.specs.Rounding.{AreUnitsOf}
use Rattle.zms_units.specs.declared.segments.Seg.{Seg}
use Rattle.zms_units.specs.declared.segments.Group.{Group}
use Rattle.zms_units.specs.declared.blocks.Dva.{Dva}
use Rattle.zms_units.specs.declared.places.MsId.{MsId}
use Rattle.zms_units.specs.declared.places.VdevRow.{VdevRow}
use Rattle.vdev_map.specs.Numbers.{row_at, IsIn}
use Rattle.ms_model.specs.Legal.{IsWithin}
use Rattle.ms_model.specs.declared.notes.Kind.{Kind}
use Rattle.ms_model.specs.declared.notes.Kind.TheVariants.{Primary, Secondary}

-- the lane that asks, the group of its hold, and the size in bytes of each copy
pub record Ask : Type 0 where
  pub lane : ℕ
  pub group : Group
  pub size : ℕ

-- which copy of a block is picked for, by those that it has already
abbrev pub kind_of : List Dva → Kind
kind_of [] = Primary
kind_of (dva ∷ dvas) = Secondary

-- a size takes so many whole units of a vdev
abbrev pub AreUnitsOn : List VdevRow → ℕ → ℕ → ℕ → Type 0
AreUnitsOn vdevs vdev size count = AreUnitsOf size (row_at vdevs vdev).ashift count

-- units of a vdev, in bytes
abbrev pub bytes_on : List VdevRow → ℕ → ℕ → ℕ
bytes_on vdevs vdev count = count * 2 ^ (row_at vdevs vdev).ashift

-- where a metaslab's unit lies on its vdev, in bytes
abbrev pub offset_of : List VdevRow → MsId → ℕ → ℕ
offset_of vdevs id unit = bytes_on vdevs id.vdev (id.index * (row_at vdevs id.vdev).units + unit)

-- a copy that lies in a metaslab's segment
abbrev pub dva_of : List VdevRow → MsId → Seg → Dva
dva_of vdevs id seg = record { class = (row_at vdevs id.vdev).class; vdev = id.vdev; offset = offset_of vdevs id seg.start; size = bytes_on vdevs id.vdev seg.count }

-- so many bytes from an offset of a vdev on are a metaslab's segment
pub record IsSegAt (vdevs : List VdevRow) (vdev offset size : ℕ) (id : MsId) (seg : Seg) : Type 0 where
  pub on : id.vdev ≡ vdev
  pub is : IsIn vdevs id
  pub within : IsWithin (row_at vdevs vdev).units seg
  pub offset_is : offset ≡ offset_of vdevs id seg.start
  pub size_is : size ≡ bytes_on vdevs vdev seg.count
