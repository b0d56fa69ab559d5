-- What the keeper knows of each metaslab between two of its acts, and what it gathered for the next group.
use Rattle.std.specs.Prelude.{◌≡◌, ℕ, ◌+◌, ◌<◌, ◌≤◌, Some, List, length, slice_get}
use Rattle.zms_units.specs.Runs.{units_in, AreMaximalRuns}
use Rattle.zms_units.specs.declared.places.MsId.{MsId}
use Rattle.zms_units.specs.declared.places.VdevRow.{VdevRow}
use Rattle.vdev_map.specs.Numbers.{IsIn, number_of, row_at, metaslabs_in}
use Rattle.vdev_map.specs.declared.layout.Batch.{Batch}
use Rattle.vdev_map.specs.declared.table.Table.{Table}
use Rattle.turn_cell.specs.Notes.{IsPrefix}
use Rattle.ms_model.specs.Origin.{Origin}
use Rattle.ms_model.specs.Units.{held, settled_group, collected_group}
use Rattle.ms_model.specs.Gains.{is_gained, is_given}
use Rattle.ms_model.specs.Legal.{IsLegal}
use Rattle.ms_model.specs.declared.notes.Noted.{Noted}
use Rattle.ms_cell.specs.Passes.{Passes, seen_in}
use Rattle.meta_store.specs.Words.{row_of}

-- of what the keeper has seen of a journal: the group that was settled last and the one that was collected last. The mark is a
-- legal beginning of it, with its last collect
pub record IsKnown (settled collected : ℕ) (o : Origin) (mark seen : List Noted) : Type 0 where
  pub begins : IsPrefix mark seen
  pub legal : IsLegal o mark
  pub mark_settled : settled_group o mark ≤ settled
  pub mark_collected : collected_group o mark ≡ collected
  pub seen_settled : settled_group o seen ≡ settled
  pub seen_collected : collected_group o seen ≡ collected

-- the batch has what a group gained and gave back at the metaslab of a number, as maximal runs
pub record IsChange (vdevs : List VdevRow) (group number : ℕ) (o : Origin) (mark : List Noted) (batch : Batch) : Type 0 where
  pub inside : IsIn vdevs batch.id
  pub place : number_of vdevs batch.id ≡ number
  pub gained : AreMaximalRuns (is_gained group mark) o.units batch.allocs
  pub given : AreMaximalRuns (is_given group mark) o.units batch.frees

-- the group is settled at each metaslab, and the first ones, one for each batch, have collected the next
pub record AreGathered (vdevs : List VdevRow) (origin : ℕ → Origin) (group : ℕ) (journal : ℕ → List Noted) (p : Passes) (batches : List Batch) : Type 0 where
  pub few : length batches ≤ metaslabs_in vdevs
  pub before : (k : ℕ) → k < length batches → IsKnown group (group + 1) (origin k) (journal k) (seen_in p k)
  pub others : (k : ℕ) → length batches ≤ k → k < metaslabs_in vdevs → IsKnown group group (origin k) (journal k) (seen_in p k)
  pub changes : (k : ℕ) (batch : Batch) → slice_get batches k ≡ Some batch → IsChange vdevs (group + 1) k (origin k) (journal k) batch

-- each row of the table has the number of units that the group holds
pub record AreCounted (vdevs : List VdevRow) (group : ℕ) (table : Table) (origin : ℕ → Origin) (journal : ℕ → List Noted) : Type 0 where
  pub each : (id : MsId) → IsIn vdevs id → (row_of table id).held ≡ units_in (held (origin (number_of vdevs id)) (journal (number_of vdevs id)) group) (row_at vdevs id.vdev).units
