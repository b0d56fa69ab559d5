-- What a run is opened with: the runs that the store's group holds of each metaslab, and what the metaslabs weigh.
use Rattle.std.specs.Prelude.{◌≡◌, ℕ, ◌-◌, nat_lt, Some, List, length, slice_get, slice_index}
use Rattle.zms_units.specs.Runs.{units_in}
use Rattle.zms_units.specs.Segments.{covered}
use Rattle.zms_units.specs.declared.places.MsId.{MsId}
use Rattle.zms_units.specs.declared.places.VdevRow.{VdevRow}
use Rattle.zms_units.specs.declared.segments.Seg.{Seg}
use Rattle.vdev_map.specs.Numbers.{IsIn, number_of, row_at, metaslabs_in}
use Rattle.vdev_map.specs.declared.table.Table.{Table}
use Rattle.ms_core.specs.Weights.{IsWeightOfSet}
use Rattle.ms_cell.specs.Closed.{AreBases}
use Rattle.meta_store.specs.Words.{row_of}

-- runs within each metaslab, in order of vdev and index, of as many units as the table's row counts
pub record AreBasesOf (vdevs : List VdevRow) (table : Table) (bases : List (List Seg)) : Type 0 where
  pub inside : AreBases vdevs bases
  pub counted : (id : MsId) (base : List Seg) → IsIn vdevs id → slice_get bases (number_of vdevs id) ≡ Some base → (row_of table id).held ≡ units_in (covered base) (row_at vdevs id.vdev).units

-- each metaslab weighs what its units that the group does not hold weigh in one run
pub record AreFirstWeights (vdevs : List VdevRow) (table : Table) (weights : List ℕ) : Type 0 where
  pub count : length weights ≡ metaslabs_in vdevs
  pub each : (id : MsId) → IsIn vdevs id
      → IsWeightOfSet (λ u. nat_lt u ((row_at vdevs id.vdev).units - (row_of table id).held)) (row_at vdevs id.vdev).units (row_at vdevs id.vdev).ashift (slice_index weights (number_of vdevs id))
