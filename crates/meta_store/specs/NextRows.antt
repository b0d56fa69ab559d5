-- The rows of the next group's table, metaslab by metaslab.
use Rattle.std.specs.Prelude.{◌≡◌, ℕ, ◌+◌, ◌<◌, ◌≤◌, Bool, false, List, [], ◌∷◌, length, drop, slice_index_or}
use Rattle.std.specs.List.{All}
use Rattle.zms_units.specs.declared.places.MsId.{MsId}
use Rattle.zms_units.specs.declared.places.VdevRow.{VdevRow}
use Rattle.zms_units.specs.declared.segments.Group.{Group}
use Rattle.vdev_map.specs.Numbers.{IsIn, number_of}
use Rattle.vdev_map.specs.declared.layout.Batch.{Batch}
use Rattle.vdev_map.specs.declared.layout.Head.{Head}
use Rattle.vdev_map.specs.declared.table.MsRow.{MsRow}
use Rattle.vdev_map.specs.declared.table.Table.{Table}
use Rattle.meta_store.specs.Batches.{is_of, AreInOrder}
use Rattle.meta_store.specs.NextWords.{allocs_of, frees_of, IsNextRow, HasNextWords}

-- is the first of these batches that of a metaslab?
abbrev pub is_first_of : List Batch → MsId → Bool
is_first_of [] id = false
is_first_of (batch ∷ batches) id = is_of batch id

-- the batches from a place on are those of the metaslabs from a number on
pub record IsRest (vdevs : List VdevRow) (batches : List Batch) (number next : ℕ) : Type 0 where
  pub order : AreInOrder vdevs number (drop next batches)
  pub allocs : (id : MsId) → IsIn vdevs id → number ≤ number_of vdevs id → allocs_of batches id ≡ allocs_of (drop next batches) id
  pub frees : (id : MsId) → IsIn vdevs id → number ≤ number_of vdevs id → frees_of batches id ≡ frees_of (drop next batches) id

-- the row of a metaslab among rows
abbrev pub row_among : List MsRow → List VdevRow → MsId → MsRow
row_among rows vdevs id = slice_index_or rows (number_of vdevs id) (record { place = 0; words = 0; unflushed = record { 0 = 0 }; held = 0; side = 0 })

-- the rows of the first n metaslabs
pub record AreNextRows (table : Table) (group : ℕ) (batches : List Batch) (n : ℕ) (rows : List MsRow) : Type 0 where
  pub count : length rows ≡ n
  pub flushed : All (λ (row : MsRow). (row.unflushed.0 ≡ group + 1) × (row.side ≡ 0)) rows
  pub each : (id : MsId) → IsIn table.vdevs id → number_of table.vdevs id < n → IsNextRow table group id (allocs_of batches id) (frees_of batches id) (row_among rows table.vdevs id)

-- the image has the words that they name
abbrev pub HasNextRows : List ℕ → List ℕ → Head → Table → Group → List Batch → ℕ → List MsRow → Type 0
HasNextRows old image head table group batches n rows =
    (id : MsId) → IsIn table.vdevs id → number_of table.vdevs id < n
    → HasNextWords old image head table group id (allocs_of batches id) (frees_of batches id) (row_among rows table.vdevs id).words
