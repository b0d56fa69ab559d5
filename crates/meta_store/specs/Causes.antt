-- Why an image does not open at a group: the first cause, in the order in which causes are told.
use Rattle.std.specs.Prelude.{◌≡◌, ℕ, ◌+◌, ◌<◌, ◌≤◌, ◌⊎◌, List}
use Rattle.zms_dev.specs.Causes.{one_more}
use Rattle.zms_units.specs.Limits.{GROUPS_END}
use Rattle.zms_units.specs.declared.faults.Damage.{Damage}
use Rattle.zms_units.specs.declared.faults.Damage.TheVariants.{Word, Counts, Unit as UnitDiffers}
use Rattle.zms_units.specs.declared.places.MsId.{MsId}
use Rattle.zms_units.specs.declared.segments.Group.{Group}
use Rattle.vdev_map.specs.Numbers.{IsIn, number_of}
use Rattle.vdev_map.specs.declared.layout.Head.{Head}
use Rattle.vdev_map.specs.declared.table.Table.{Table}
use Rattle.uber_ring.specs.Slots.{IsValid, IsNewest, HasNone}
use Rattle.uber_ring.specs.TableFields.{HasTableFault}
use Rattle.uber_ring.specs.declared.faults.TableFault.{TableFault}
use Rattle.uber_ring.specs.declared.faults.TableFault.TheVariants.{TableDamaged as DamagedTable, Malformed as MalformedTable}
use Rattle.uber_ring.specs.declared.head.HeadFault.TheVariants.{HeadDamaged as DamagedHead, Malformed as MalformedHead}
use Rattle.uber_ring.specs.declared.slot.Uber.{Uber}
use Rattle.space_map.specs.Reading.{IsFirstFault}
use Rattle.space_map.specs.declared.places.MapKind.TheVariants.{Side}
use Rattle.meta_store.specs.Heads.{head_bytes, IsWholeHead, IsNoHead}
use Rattle.meta_store.specs.Words.{row_of, units_of, words_in, HoldUnits}
use Rattle.meta_store.specs.Groups.{HasRows, IsSound}
use Rattle.meta_store.specs.declared.causes.At.{At}
use Rattle.meta_store.specs.declared.causes.At.TheVariants.{Newest, Group as AtGroup}
use Rattle.meta_store.specs.declared.causes.OpenCause.{OpenCause}
use Rattle.meta_store.specs.declared.causes.OpenCause.TheVariants.{NoSlot, NotRetained, Spent, HeadDamaged, TableDamaged, Malformed, MapDamaged}
use Rattle.meta_store.specs.declared.causes.OpenFault.{OpenFault}
use Rattle.meta_store.specs.declared.causes.OpenFault.TheVariants.{Cause, Failed, Memory}

-- the group that is asked for, where the newest is this one
abbrev pub asked_group : At → Group → Group
asked_group Newest newest = newest
asked_group (AtGroup group) newest = group

-- the uberblock of the group that is asked for, which is at most two below the newest
pub record IsAsked (image : List ℕ) (at : At) (uber : Uber) : Type 0 where
  pub newest : Uber
  pub is_newest : IsNewest image newest
  pub group : uber.group ≡ asked_group at newest.group
  pub recent : newest.group.0 ≤ uber.group.0 + 2
  pub valid : IsValid image uber

-- it is refused: there are slots, and the group that is asked for has none, or is too far below the newest
pub record IsRefused (image : List ℕ) (at : At) (asked newest : Group) : Type 0 where
  pub uber : Uber
  pub is_newest : IsNewest image uber
  pub newest_is : uber.group ≡ newest
  pub asks : at ≡ AtGroup asked
  pub none : (other : Uber) → IsAsked image at other → ⊥

-- what is wrong with the words of a side of so many units, of which so many should be held
abbrev pub ShowsDamage : List ℕ → ℕ → ℕ → Damage → Type 0
ShowsDamage words units held (Word fault) = IsFirstFault (Side units) words fault
ShowsDamage words units held (Counts kept found) = (kept ≡ held) × (HoldUnits words units found × (found ≡ held → ⊥))
ShowsDamage words units held (UnitDiffers u) = ⊥

-- the damage of the first metaslab that has any
pub record IsFirstDamaged (image : List ℕ) (table : Table) (id : MsId) (damage : Damage) : Type 0 where
  pub in_table : IsIn table.vdevs id
  pub shows : ShowsDamage (words_in image table id) (units_of table id) (row_of table id).held damage
  pub before : (other : MsId) → IsIn table.vdevs other → number_of table.vdevs other < number_of table.vdevs id → IsSound image table other

-- a fault of the table of an uberblock, under a head that is right
pub record HasNoTable (image : List ℕ) (uber : Uber) (fault : TableFault) : Type 0 where
  pub head : Head
  pub has_head : IsWholeHead (head_bytes image) head
  pub shows : HasTableFault image head uber fault

-- damage of the words that the table of an uberblock names
pub record HasDamage (image : List ℕ) (uber : Uber) (id : MsId) (damage : Damage) : Type 0 where
  pub head : Head
  pub table : Table
  pub rows : HasRows image uber head table
  pub first : IsFirstDamaged image table id damage

-- why the group of an uberblock that has a valid slot is not opened: the first of its number, the head, the table, and the
-- metaslabs in order
abbrev pub ShowsOf : List ℕ → Uber → OpenCause → Type 0
ShowsOf image uber NoSlot = ⊥
ShowsOf image uber (NotRetained asked newest) = ⊥
ShowsOf image uber (Spent group) = (group ≡ uber.group) × (GROUPS_END ≤ group.0)
ShowsOf image uber (HeadDamaged kept found) = (uber.group.0 < GROUPS_END) × IsNoHead (head_bytes image) (DamagedHead kept found)
ShowsOf image uber (TableDamaged group kept found) = (uber.group.0 < GROUPS_END) × HasNoTable image uber (DamagedTable group kept found)
ShowsOf image uber (Malformed part at) =
    (uber.group.0 < GROUPS_END) × (IsNoHead (head_bytes image) (MalformedHead part at) ⊎ HasNoTable image uber (MalformedTable part at))
ShowsOf image uber (MapDamaged id damage) = (uber.group.0 < GROUPS_END) × HasDamage image uber id damage

-- the same of the group that is asked for
pub record ShowsAsked (image : List ℕ) (at : At) (cause : OpenCause) : Type 0 where
  pub uber : Uber
  pub asked : IsAsked image at uber
  pub shows : ShowsOf image uber cause

-- why the image does not open at what is asked for: no slot is valid, or it has no slot that is recent, or the group's own
-- cause
abbrev pub Shows : List ℕ → At → OpenCause → Type 0
Shows image at NoSlot = HasNone image
Shows image at (NotRetained asked newest) = IsRefused image at asked newest
Shows image at (Spent group) = ShowsAsked image at (Spent group)
Shows image at (HeadDamaged kept found) = ShowsAsked image at (HeadDamaged kept found)
Shows image at (TableDamaged group kept found) = ShowsAsked image at (TableDamaged group kept found)
Shows image at (Malformed part place) = ShowsAsked image at (Malformed part place)
Shows image at (MapDamaged id damage) = ShowsAsked image at (MapDamaged id damage)

-- a cause that the image shows; of a device that failed its count of faults tells, and want of memory is free
abbrev pub IsOpenFault : List ℕ → At → OpenFault → Type 0
IsOpenFault image at (Cause cause) = Shows image at cause
IsOpenFault image at Failed = Unit {0}
IsOpenFault image at Memory = Unit {0}

-- the same of one group
abbrev pub IsOpenFaultOf : List ℕ → Uber → OpenFault → Type 0
IsOpenFaultOf image uber (Cause cause) = ShowsOf image uber cause
IsOpenFaultOf image uber Failed = Unit {0}
IsOpenFaultOf image uber Memory = Unit {0}

-- damage of the metaslabs of a table
abbrev pub IsMetaslabFault : List ℕ → Table → OpenFault → Type 0
IsMetaslabFault image table (Cause (MapDamaged id damage)) = IsFirstDamaged image table id damage
IsMetaslabFault image table (Cause _) = ⊥
IsMetaslabFault image table Failed = Unit {0}
IsMetaslabFault image table Memory = Unit {0}

-- a count of faults after a refusal: it rose by one where the device failed
abbrev pub IsFaultOf : OpenFault → ℕ → ℕ → Type 0
IsFaultOf (Cause cause) before now = now ≡ before
IsFaultOf Failed before now = now ≡ one_more before
IsFaultOf Memory before now = now ≡ before
