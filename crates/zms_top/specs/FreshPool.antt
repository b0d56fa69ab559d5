-- A pool as it was just opened.
use Rattle.std.specs.Prelude.{◌≡◌, ℕ, ◌<◌, None, [], List}
use Rattle.zms_units.specs.Limits.{GROUPS_END}
use Rattle.zms_units.specs.declared.segments.Group.{Group}
use Rattle.zms_units.specs.declared.segments.Seg.{Seg}
use Rattle.ms_core.specs.State.{origin_of}
use Rattle.zms_dev.specs.Disk.{DiskState, Tells, bytes_of}
use Rattle.vdev_map.specs.declared.layout.Layout.{Layout}
use Rattle.vdev_map.specs.declared.table.Table.{Table}
use Rattle.meta_store.specs.Groups.{Finds}
use Rattle.meta_store.specs.Stores.{Opens}
use Rattle.meta_store.specs.declared.causes.At.{At}
use Rattle.zms_dev.specs.Causes.{one_more}
use Rattle.meta_store.specs.declared.causes.FoundFault.{FoundFault}
use Rattle.meta_store.specs.declared.causes.FoundFault.TheVariants as FoundFaults
use Rattle.meta_store.specs.declared.causes.OpenCause.TheVariants.{MapDamaged}
use Rattle.meta_store.specs.declared.causes.OpenFault.{OpenFault}
use Rattle.meta_store.specs.declared.causes.OpenFault.TheVariants as OpenFaults
use Rattle.zms_top.specs.Pools.{IsPool, IsStoreOf}
use Rattle.zms_top.specs.Sound.{first_id}
use Rattle.zms_top.specs.Stored.{IsSingle, opened_contents}
use Rattle.zms_top.specs.declared.status.PoolCause.TheVariants.{Open, OtherLayout}
use Rattle.zms_top.specs.declared.status.Status.{Status}
use Rattle.zms_top.specs.declared.status.Status.TheVariants.{DeviceFault, NotAPool, Memory}
use Rattle.zms_top.specs.declared.pool.Pool.{Pool}

-- its journals are empty, and no fault is kept
pub record IsFresh (p : Pool) : Type 0 where
  pub pool : IsPool p
  pub notes : p.metaslab.notes ≡ []
  pub gate : p.gate.notes ≡ []
  pub first : p.first ≡ None
  pub id : p.metaslab.id ≡ first_id
  pub small : p.metaslab.opened < GROUPS_END

-- a pool that was opened with its store: the device opens at what is asked for, with the store's layout and table, and what
-- the pool's metaslab held then is what that group finds
pub record IsOpened (at : At) (start : DiskState) (p : Pool) (layout : Layout) (table : Table) : Type 0 where
  pub fresh : IsFresh p
  pub store : IsStoreOf p layout table
  pub opens : Tells start → Opens (bytes_of start) at layout table
  pub base : Tells start → Finds (bytes_of start) p.metaslab.opened (opened_contents layout (origin_of p.metaslab))

-- a pool that was put together from what its opened group holds, with nothing done yet
pub record IsAssembled (opened : Group) (count : ℕ) (runs : List Seg) (p : Pool) : Type 0 where
  pub fresh : IsFresh p
  pub group : p.metaslab.opened ≡ opened.0
  pub units : p.metaslab.units ≡ count
  pub base : p.metaslab.base ≡ runs

-- why a store that was opened has no pool: lanes don't run over its layout, what its group holds was not found, or memory ran
-- out. Damage is found on no device that opens with this layout and table
abbrev pub IsUnfit : DiskState → Layout → Table → ℕ → ℕ → Status → Type 0
IsUnfit disk layout table low high DeviceFault = high ≡ one_more low
IsUnfit disk layout table low high (NotAPool (Open cause)) = ((at : At) → Tells disk → Opens (bytes_of disk) at layout table → ⊥) × (high ≡ low)
IsUnfit disk layout table low high (NotAPool OtherLayout) = ((table.vdevs ≡ layout.vdevs) × ((units : ℕ) → IsSingle layout units → ⊥)) × (high ≡ low)
IsUnfit disk layout table low high Memory = high ≡ low
IsUnfit disk layout table low high _ = ⊥

-- the status of a store that was not opened, and of one of which no pool was made
abbrev pub status_of_open : OpenFault → Status
status_of_open (OpenFaults.Cause cause) = NotAPool (Open cause)
status_of_open OpenFaults.Failed = DeviceFault
status_of_open OpenFaults.Memory = Memory

abbrev pub status_of_found : FoundFault → Status
status_of_found FoundFaults.Failed = DeviceFault
status_of_found FoundFaults.Memory = Memory
status_of_found (FoundFaults.Damaged id damage) = NotAPool (Open (MapDamaged id damage))
