-- What the table of a group may be.
use Rattle.std.specs.Prelude.{◌≡◌, ℕ, ◌+◌, ◌/◌, ◌^◌, ◌<◌, ◌≤◌, min, List, [], length, take, map, fold, slice_index_or}
use Rattle.zms_units.specs.declared.places.MsId.{MsId}
use Rattle.zms_units.specs.declared.places.VdevRow.{VdevRow}
use Rattle.vdev_map.specs.Limits.{IsVdevCount, HasNormal, IsShift, IsUnits, EachRow}
use Rattle.vdev_map.specs.Numbers.{IsIn, row_at, number_of, metaslabs_in, units_in}
use Rattle.vdev_map.specs.Places.{log_len, room_of, row_place}
use Rattle.vdev_map.specs.declared.layout.Form.TheVariants.{Whole}
use Rattle.vdev_map.specs.declared.layout.Head.{Head}
use Rattle.vdev_map.specs.declared.table.LogRow.{LogRow}
use Rattle.vdev_map.specs.declared.table.MsRow.{MsRow}
use Rattle.vdev_map.specs.declared.table.Table.{Table}

-- the row of a metaslab by its number, and of a log by its place
abbrev pub ms_row_at : Table → ℕ → MsRow
ms_row_at table m = slice_index_or table.rows m (record { place = 0; words = 0; unflushed = record { 0 = 0 }; held = 0; side = 0 })

abbrev pub log_row_at : Table → ℕ → LogRow
log_row_at table l = slice_index_or table.logs l (record { group = record { 0 = 0 }; words = 0; digest = [] })

-- a group that a table may be of
pub record IsGroup (group : ℕ) : Type 0 where
  pub least : 4 ≤ group
  pub last : group < 2 ^ 50

-- so many vdevs, one of them normal
pub record AreEnoughVdevs (vdevs : List VdevRow) : Type 0 where
  pub count : IsVdevCount (length vdevs)
  pub normal : HasNormal vdevs

-- one row for each metaslab of the vdevs
pub record AreMetaslabRows (table : Table) : Type 0 where
  pub most : length table.rows ≤ 1024
  pub one_each : length table.rows ≡ metaslabs_in table.vdevs

-- the units of a vdev, which with those of the vdevs before it are within the limit of a pool
pub record AreUnitsOf (vdevs : List VdevRow) (v : ℕ) : Type 0 where
  pub each : IsUnits (row_at vdevs v).units
  pub so_far : units_in (take (v + 1) vdevs) ≤ 4194304

-- the least group that some metaslab has not flushed, or the one after the table's where that is less
abbrev pub first_log : Table → ℕ
first_log table = fold min (table.group.0 + 1) (map (λ row. row.unflushed.0) table.rows)

-- there is a log for each group from that one to the table's
abbrev pub HasItsLogs : Table → Type 0
HasItsLogs table = length table.logs + first_log table ≡ table.group.0 + 1

-- the logs are of rising groups
abbrev pub IsLogGroup : Table → ℕ → Type 0
IsLogGroup table l = (log_row_at table l).group.0 ≡ first_log table + l

-- a log lies in its slot
abbrev pub IsLogWords : Head → Table → ℕ → Type 0
IsLogWords head table l = (log_row_at table l).words ≤ log_len head.log / 8

-- what holds of the metaslab of this number
abbrev pub OfMetaslab : List VdevRow → ℕ → (MsId → Type 0) → Type 0
OfMetaslab vdevs m P = (id : MsId) → IsIn vdevs id → number_of vdevs id ≡ m → P id

-- its row names the place at which it begins
abbrev pub IsPlace : Head → Table → ℕ → Type 0
IsPlace head table m = OfMetaslab table.vdevs m (λ id. (ms_row_at table m).place ≡ row_place head table.vdevs id)

-- its words lie in their slot or side
abbrev pub IsWords : Head → Table → ℕ → Type 0
IsWords head table m = OfMetaslab table.vdevs m (λ id. (ms_row_at table m).words ≤ room_of head.form (row_at table.vdevs id.vdev).units)

-- the first group that is not in its words: none of the last `flush` groups is left out, and none that has no log
pub record IsUnflushed (head : Head) (group unflushed : ℕ) : Type 0 where
  pub least : 5 ≤ unflushed
  pub due : group < unflushed + head.flush
  pub most : unflushed ≤ group + 1
  pub whole : head.form ≡ Whole → unflushed ≡ group + 1

-- no more units are held than there are
abbrev pub IsHeld : Table → ℕ → Type 0
IsHeld table m = OfMetaslab table.vdevs m (λ id. (ms_row_at table m).held ≤ (row_at table.vdevs id.vdev).units)

-- its words lie on one of two sides
pub record IsSide (head : Head) (side : ℕ) : Type 0 where
  pub most : side ≤ 1
  pub whole : head.form ≡ Whole → side ≡ 0

-- the table of a group
pub record IsTable (head : Head) (table : Table) : Type 0 where
  pub group : IsGroup table.group.0
  pub vdevs : AreEnoughVdevs table.vdevs
  pub metaslab_rows : AreMetaslabRows table
  pub log_count : HasItsLogs table
  pub shifts : EachRow (λ row. IsShift row.ashift) table.vdevs
  pub units : (v : ℕ) → v < length table.vdevs → AreUnitsOf table.vdevs v
  pub metaslabs : EachRow (λ row. 1 ≤ row.metaslabs) table.vdevs
  pub log_groups : (l : ℕ) → l < length table.logs → IsLogGroup table l
  pub log_words : (l : ℕ) → l < length table.logs → IsLogWords head table l
  pub places : (m : ℕ) → m < length table.rows → IsPlace head table m
  pub words : (m : ℕ) → m < length table.rows → IsWords head table m
  pub unflushed : (m : ℕ) → m < length table.rows → IsUnflushed head table.group.0 (ms_row_at table m).unflushed.0
  pub held : (m : ℕ) → m < length table.rows → IsHeld table m
  pub sides : (m : ℕ) → m < length table.rows → IsSide head (ms_row_at table m).side
