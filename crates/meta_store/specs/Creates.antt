-- What a stop may leave while a pool is made, and after it.
use Rattle.std.specs.Prelude.{◌≡◌, ℕ, ◌⊎◌, false, List, []}
use Rattle.zms_units.specs.declared.places.MsId.{MsId}
use Rattle.zms_dev.specs.Bytes.{Outside}
use Rattle.zms_dev.specs.Disk.{DiskState, bytes_of}
use Rattle.zms_dev.specs.Runs.{Before, Spares}
use Rattle.vdev_map.specs.Numbers.{IsIn}
use Rattle.vdev_map.specs.Places.{table_place}
use Rattle.vdev_map.specs.Tables.{IsTable}
use Rattle.vdev_map.specs.declared.layout.Layout.{Layout}
use Rattle.vdev_map.specs.declared.table.Table.{Table}
use Rattle.uber_ring.specs.Slots.{IsValid, HasNone}
use Rattle.uber_ring.specs.declared.slot.Uber.{Uber}
use Rattle.meta_store.specs.Groups.{Contents, Finds, HasNewest}
use Rattle.meta_store.specs.Heads.{head_of}
use Rattle.meta_store.specs.Stores.{IsAtRest}
use Rattle.meta_store.specs.Words.{row_of}
use Rattle.meta_store.specs.declared.create_faults.CreateFault.{CreateFault}
use Rattle.meta_store.specs.declared.create_faults.CreateFault.TheVariants.{AlreadyPool, Failed, Memory}

-- what a pool of this layout holds when it is made
abbrev pub nothing_held : Layout → Contents
nothing_held layout = record { layout = layout; held = λ id u. false }

-- the pool is there: its first group is the only valid one, and nothing is held
pub record IsNewPool (layout : Layout) (image : List ℕ) : Type 0 where
  pub newest : HasNewest image 4
  pub only : (uber : Uber) → IsValid image uber → uber.group.0 ≡ 4
  pub finds : Finds image 4 (nothing_held layout)

-- there is no pool yet, or all of it
abbrev pub IsNoneOrNew : Layout → List ℕ → Type 0
IsNoneOrNew layout image = HasNone image ⊎ IsNewPool layout image

-- at first the head and the ring may be torn; then there is no pool yet, or all of it
abbrev pub IsUnmadeOrNew : DiskState → Layout → List ℕ → Type 0
IsUnmadeOrNew disk layout image = Before disk (Outside 0 135168) image ⊎ IsNoneOrNew layout image

-- the table of the first group: no metaslab has words, and nothing is held
pub record IsFirstTable (layout : Layout) (table : Table) : Type 0 where
  pub fits : IsTable (head_of layout) table
  pub group : table.group.0 ≡ 4
  pub vdevs : table.vdevs ≡ layout.vdevs
  pub logs : table.logs ≡ []
  pub words : (id : MsId) → IsIn layout.vdevs id → (row_of table id).words ≡ 0
  pub held : (id : MsId) → IsIn layout.vdevs id → (row_of table id).held ≡ 0

-- a stop leaves the new pool, from which a store of its first group may go on
pub record IsMade (disk : DiskState) (layout : Layout) : Type 0 where
  pub pool : (c : List ℕ) → disk.may_leave c → IsNewPool layout c
  pub table : Table
  pub first : IsFirstTable layout table
  pub at_rest : IsAtRest disk layout table

-- a place that making a pool leaves: outside the head and the ring, and outside the table slot of the first group
abbrev pub IsLeftByCreate : ℕ → Type 0
IsLeftByCreate p = Outside 0 135168 p × Outside (table_place 4) 262144 p

-- want of memory left no valid slot, and the head and the ring alone were touched: the same pool may be made again
pub record IsUnmade (old new : DiskState) : Type 0 where
  pub none : HasNone (bytes_of new)
  pub images : (c : List ℕ) → new.may_leave c → old.may_leave c ⊎ HasNone c
  pub spares : Spares (Outside 0 135168) old new

-- why no pool is made: there is one, of this newest group; there is none, and memory is wanting; of a device that failed
-- its count of faults tells
abbrev pub IsCreateFault : List ℕ → CreateFault → Type 0
IsCreateFault image (AlreadyPool newest) = HasNewest image newest.0
IsCreateFault image Failed = Unit {0}
IsCreateFault image Memory = HasNone image

-- a device that failed, or want of memory
abbrev pub IsCreateFailure : CreateFault → Type 0
IsCreateFailure fault = (fault ≡ Failed) ⊎ (fault ≡ Memory)
