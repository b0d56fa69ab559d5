-- The first group, as it is laid down on a device whose head and ring are wiped.
use Rattle.std.specs.Prelude.{◌≡◌, ℕ, ◌+◌, ◌<◌, ◌≤◌, List, ◌∷◌, ◌++◌, length}
use Rattle.std.specs.List.{All}
use Rattle.zms_units.specs.declared.places.MsId.{MsId}
use Rattle.zms_units.specs.declared.places.VdevRow.{VdevRow}
use Rattle.zms_dev.specs.Bytes.{byte, Outside}
use Rattle.zms_dev.specs.Disk.{DiskState, bytes_of, Only}
use Rattle.zms_dev.specs.Runs.{LeavesOnly, Spares}
use Rattle.vdev_map.specs.Numbers.{IsIn, number_of}
use Rattle.vdev_map.specs.Places.{row_place, table_place}
use Rattle.vdev_map.specs.declared.layout.Head.{Head}
use Rattle.vdev_map.specs.declared.layout.Layout.{Layout}
use Rattle.vdev_map.specs.declared.table.MsRow.{MsRow}
use Rattle.vdev_map.specs.declared.table.Table.{Table}
use Rattle.uber_ring.specs.Writes.{Flushes}
use Rattle.uber_ring.specs.declared.slot.Uber.{Uber}
use Rattle.meta_store.specs.Creates.{IsNoneOrNew, IsUnmadeOrNew, IsLeftByCreate}
use Rattle.meta_store.specs.Groups.{HasRows}
use Rattle.meta_store.specs.NextRows.{row_among}

-- the row of a metaslab in the first group's table: it has no words, and holds nothing
abbrev pub first_row : Head → List VdevRow → MsId → MsRow
first_row head vdevs id = record { place = row_place head vdevs id; words = 0; unflushed = record { 0 = 5 }; held = 0; side = 0 }

-- the rows of the first n metaslabs
pub record AreFirstRows (head : Head) (vdevs : List VdevRow) (n : ℕ) (rows : List MsRow) : Type 0 where
  pub count : length rows ≡ n
  pub flushed : All (λ (row : MsRow). (row.unflushed.0 ≡ 5) × (row.side ≡ 0)) rows
  pub each : (id : MsId) → IsIn vdevs id → number_of vdevs id < n → row_among rows vdevs id ≡ first_row head vdevs id

-- all that is read is flushed, and the head and the ring are zeros
pub record IsWiped (disk : DiskState) : Type 0 where
  pub flushed : Only (bytes_of disk) disk.may_leave
  pub zeros : (p : ℕ) → p < 135168 → byte (bytes_of disk) p ≡ 0
  pub long : 135168 ≤ length (bytes_of disk)

-- the image has the head and the table of the first group, before its end
pub record IsLaidFirst (image : List ℕ) (head : Head) (table : Table) (uber : Uber) : Type 0 where
  pub rows : HasRows image uber head table
  pub lies : table_place 4 + uber.table_len ≤ length image

-- a place that laying the first group down leaves: outside its head and its table
abbrev pub IsOffFirst : ℕ → Type 0
IsOffFirst p = Outside 0 64 p × Outside (table_place 4) 262144 p

-- a run that makes the first group openable on a wiped device
pub record IsFilling (old new : DiskState) (layout : Layout) : Type 0 where
  pub any_moment : IsWiped old → LeavesOnly old new (IsNoneOrNew layout)
  pub spares : Spares IsLeftByCreate old new
  pub flushes : Flushes 4 old new

-- a run that makes a pool
pub record IsMaking (old new : DiskState) (layout : Layout) : Type 0 where
  pub any_moment : LeavesOnly old new (IsUnmadeOrNew old layout)
  pub after_first : (t : ℕ) (rest : List ℕ) → new.flushes ≡ old.flushes ++ t ∷ rest → (c : List ℕ) → new.left_since t c → IsNoneOrNew layout c
  pub spares : Spares IsLeftByCreate old new
  pub flushes : Flushes 5 old new
