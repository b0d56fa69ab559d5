-- The next group, as it is laid down before it is made openable.
use Rattle.std.specs.Prelude.{◌≡◌, ℕ, ◌+◌, List}
use Rattle.zms_units.specs.declared.places.MsId.{MsId}
use Rattle.zms_units.specs.declared.places.VdevRow.{VdevRow}
use Rattle.zms_units.specs.declared.segments.Group.{Group}
use Rattle.zms_dev.specs.Bytes.{Outside, Torn}
use Rattle.vdev_map.specs.Numbers.{IsIn}
use Rattle.vdev_map.specs.Places.{table_place, slot_place, place_of, len_of}
use Rattle.vdev_map.specs.Tables.{IsTable}
use Rattle.vdev_map.specs.declared.layout.Batch.{Batch}
use Rattle.vdev_map.specs.declared.layout.Head.{Head}
use Rattle.vdev_map.specs.declared.places.Piece.TheVariants.{WholeSlot}
use Rattle.vdev_map.specs.declared.table.Table.{Table}
use Rattle.uber_ring.specs.Encoding.{Names}
use Rattle.uber_ring.specs.Slots.{IsUber}
use Rattle.uber_ring.specs.TableFields.{HasTable}
use Rattle.meta_store.specs.NextWords.{allocs_of, frees_of, IsNextRow, HasNextWords}
use Rattle.meta_store.specs.Words.{row_of, words_in}
use Rattle.meta_store.specs.declared.laying.NextGroup.{NextGroup}

-- a place at which no words of a group lie
abbrev pub OffWords : Head → List VdevRow → Group → ℕ → Type 0
OffWords head vdevs group p = (id : MsId) → IsIn vdevs id → Outside (place_of head vdevs (WholeSlot id group)) (len_of head vdevs (WholeSlot id group)) p

-- a place that laying a group down leaves: outside its table and its words
pub record IsSpared (head : Head) (vdevs : List VdevRow) (group : Group) (p : ℕ) : Type 0 where
  pub table : Outside (table_place group.0) 262144 p
  pub words : OffWords head vdevs group p

-- a place that committing the group of a number leaves: outside its slot too
abbrev pub IsLeft : Head → List VdevRow → ℕ → ℕ → Type 0
IsLeft head vdevs group p = IsSpared head vdevs (record { 0 = group }) p × Outside (slot_place group) 1024 p

-- the words of the table's group stay as they are while the words of another are written
abbrev pub KeepsWords : List ℕ → Head → Table → Group → Type 0
KeepsWords old head table group = (image : List ℕ) → Torn (OffWords head table.vdevs group) old image → (id : MsId) → IsIn table.vdevs id → words_in image table id ≡ words_in old table id

-- the table of the next group
pub record IsNextTable (head : Head) (table : Table) (batches : List Batch) (next : Table) : Type 0 where
  pub fits : IsTable head next
  pub group : next.group.0 ≡ table.group.0 + 1
  pub vdevs : next.vdevs ≡ table.vdevs
  pub rows : (id : MsId) → IsIn table.vdevs id → IsNextRow table next.group.0 id (allocs_of batches id) (frees_of batches id) (row_of next id)

-- the table with its uberblock
pub record IsNextGroup (head : Head) (table : Table) (batches : List Batch) (next : NextGroup) : Type 0 where
  pub table_is : IsNextTable head table batches next.table
  pub names : Names next.uber next.table
  pub limits : IsUber next.uber

-- the image has the words and the table of the next group
pub record IsLaid (old image : List ℕ) (head : Head) (table : Table) (batches : List Batch) (next : NextGroup) : Type 0 where
  pub table_is : HasTable image head next.uber next.table
  pub words : (id : MsId) → IsIn table.vdevs id → HasNextWords old image head table next.table.group id (allocs_of batches id) (frees_of batches id) (row_of next.table id).words
