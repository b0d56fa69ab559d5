-- What is told of each metaslab, and when a text is the report of a group.
use Rattle.std.specs.Prelude.{◌≡◌, ℕ, ◌+◌, ◌<◌, Bool, not, List, length, slice_index_or}
use Rattle.zms_dev.specs.Disk.{DiskState, Tells, bytes_of}
use Rattle.zms_units.specs.Runs.{units_in}
use Rattle.zms_units.specs.Weights.{IsHistogramOf, IsWeightOf}
use Rattle.zms_units.specs.declared.places.MsId.{MsId}
use Rattle.vdev_map.specs.Numbers.{IsIn, row_at, number_of, metaslabs_in}
use Rattle.vdev_map.specs.declared.layout.Layout.{Layout}
use Rattle.vdev_map.specs.declared.table.Table.{Table}
use Rattle.space_map.specs.Replay.{Replays}
use Rattle.space_map.specs.declared.places.MapKind.TheVariants.{Side}
use Rattle.meta_store.specs.Words.{row_of, units_of, words_in}
use Rattle.zdb_report.specs.Texts.{report_text}
use Rattle.zdb_report.specs.declared.stats.MetaslabStats.{MetaslabStats}

-- the metaslab of a number, as the table has it
pub record IsRow (table : Table) (number : ℕ) (s : MetaslabStats) : Type 0 where
  pub id : IsIn table.vdevs s.id
  pub is : number_of table.vdevs s.id ≡ number
  pub class : s.class ≡ (row_at table.vdevs s.id.vdev).class
  pub ashift : s.ashift ≡ (row_at table.vdevs s.id.vdev).ashift
  pub row : s.row ≡ row_of table s.id
  pub live : s.live ≡ s.row.held
  pub vacant : s.live + s.vacant ≡ units_of table s.id

-- of its units these are held, and the others are vacant
pub record IsStats (table : Table) (number : ℕ) (held : ℕ → Bool) (s : MetaslabStats) : Type 0 where
  pub row : IsRow table number s
  pub live : s.live ≡ units_in held (units_of table s.id)
  pub hist : IsHistogramOf (λ u. not (held u)) (units_of table s.id) s.ashift s.hist
  pub weight : IsWeightOf s.hist s.weight

-- the words of a metaslab say of each unit whether it is held, where the device tells its bytes
abbrev pub IsHeldIn : DiskState → Table → MsId → (ℕ → Bool) → Type 0
IsHeldIn disk table id held =
    Tells disk → (u : ℕ) → u < units_of table id → Replays (Side (units_of table id)) (words_in (bytes_of disk) table id) u (held u)

-- the metaslab of a number, with the units that its words hold
pub record IsShown (disk : DiskState) (table : Table) (number : ℕ) (s : MetaslabStats) : Type 0 where
  pub held : ℕ → Bool
  pub words : IsHeldIn disk table s.id held
  pub stats : IsStats table number held s

-- the first so many metaslabs, in order of vdev and index
pub record AreShown (disk : DiskState) (table : Table) (count : ℕ) (stats : List MetaslabStats) : Type 0 where
  pub many : length stats ≡ count
  pub each : (number : ℕ) (d : MetaslabStats) → number < count → IsShown disk table number (slice_index_or stats number d)

-- the text is the report of the table's group, of the device as it is
pub record IsReport (disk : DiskState) (layout : Layout) (table : Table) (text : List ℕ) : Type 0 where
  pub stats : List MetaslabStats
  pub shown : AreShown disk table (metaslabs_in table.vdevs) stats
  pub text_is : text ≡ report_text layout table.group.0 stats

-- all metaslabs, as the table has them
pub record AreRows (table : Table) (stats : List MetaslabStats) : Type 0 where
  pub many : length stats ≡ metaslabs_in table.vdevs
  pub each : (number : ℕ) (d : MetaslabStats) → number < metaslabs_in table.vdevs → IsRow table number (slice_index_or stats number d)
