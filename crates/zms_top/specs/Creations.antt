-- How a creation ends: each way, with its cause, and what it leaves of the device.
use Rattle.std.specs.Prelude.{◌≡◌, ℕ, ◌⊎◌, ◌↔◌, Result, List, ◌∷◌, ◌++◌, IfErr, OnOk, IsErrOf}
use Rattle.zms_units.specs.declared.segments.Group.{Group}
use Rattle.zms_units.specs.declared.places.VdevRow.{VdevRow}
use Rattle.zms_dev.specs.Causes.{one_more}
use Rattle.zms_dev.specs.Disk.{DiskState, Tells, bytes_of}
use Rattle.zms_dev.specs.Prints.{HandsOn}
use Rattle.zms_dev.specs.Runs.{LeavesOnly, Spares, Untouched}
use Rattle.zms_dev.specs.Stream.{SinkState}
use Rattle.zms_dev.specs.declared.failed.Failed.{Failed}
use Rattle.vdev_map.specs.declared.layout.Layout.{Layout}
use Rattle.uber_ring.specs.Slots.{IsValid, HasNone}
use Rattle.uber_ring.specs.declared.slot.Uber.{Uber}
use Rattle.meta_store.specs.Creates.{IsCreateFault, IsUnmadeOrNew, IsNoneOrNew, IsMade, IsUnmade, IsLeftByCreate}
use Rattle.meta_store.specs.Groups.{HasNewest}
use Rattle.meta_store.specs.declared.create_faults.CreateFault.{CreateFault}
use Rattle.meta_store.specs.declared.create_faults.CreateFault.TheVariants.{AlreadyPool as HasPool, Failed as CreateFailed, Memory as CreateMemory}
use Rattle.zms_top.specs.Ends.{written_status}
use Rattle.zms_top.specs.Texts.{created_text}
use Rattle.zms_top.specs.declared.status.PoolCause.TheVariants.{AlreadyPool}
use Rattle.zms_top.specs.declared.status.Status.{Status}
use Rattle.zms_top.specs.declared.status.Status.TheVariants.{DeviceFault, NotAPool, Memory}

-- the layout of a pool that is created of these vdevs: each metaslab unflushed for at most 8 groups, and at most 65536 runs in
-- the log of a group
abbrev pub created_layout : List VdevRow → Layout
created_layout vdevs = record { flush = 8; log = 65536; vdevs = vdevs }

-- what a creation leaves of the device, however it ends: at first the head and the ring may be torn, and from the first flush
-- on there is no pool, or all of it; and where there was a pool nothing is touched
pub record IsCreating (layout : Layout) (start now : DiskState) : Type 0 where
  pub any_moment : LeavesOnly start now (IsUnmadeOrNew start layout)
  pub after_first : (t : ℕ) (rest : List ℕ) → now.flushes ≡ start.flushes ++ t ∷ rest → (c : List ℕ) → now.left_since t c → IsNoneOrNew layout c
  pub spares : Spares IsLeftByCreate start now
  pub pool : (uber : Uber) → IsValid (bytes_of start) uber → Untouched start now

-- there was no pool, and at return there is the new one
pub record IsCreated (layout : Layout) (start now : DiskState) : Type 0 where
  pub creating : IsCreating layout start now
  pub none : HasNone (bytes_of start)
  pub made : IsMade now layout

-- the device was not called: it is as it was
pub record IsUncalled (start now : DiskState) : Type 0 where
  pub honest : now.honest ↔ start.honest
  pub contents : now.contents ≡ start.contents
  pub images : (c : List ℕ) → now.may_leave c ↔ start.may_leave c
  pub moment : now.moment ≡ start.moment
  pub since : (t : ℕ) (c : List ℕ) → now.left_since t c ↔ start.left_since t c
  pub flushes : now.flushes ≡ start.flushes

-- the ways in which a creation ends
pub data CreateEnds (vdevs : List VdevRow) (out out_now : SinkState) (start now : DiskState) (low high : ℕ) : Status → Type 0 where
  -- the device has a pool, of this newest group
  already : (group : Group) → (Tells start → HasNewest (bytes_of start) group.0 × Untouched start now) → high ≡ low → out_now ≡ out
      → CreateEnds vdevs out out_now start now low high (NotAPool (AlreadyPool group))
  -- the device failed
  device : (Tells start → IsCreating (created_layout vdevs) start now) → high ≡ one_more low → out_now ≡ out
      → CreateEnds vdevs out out_now start now low high DeviceFault
  -- memory ran out: before the device was called, or there was no pool, and there is none
  memory : IsUncalled start now ⊎ (Tells start → HasNone (bytes_of start) × IsUnmade start now) → high ≡ low → out_now ≡ out
      → CreateEnds vdevs out out_now start now low high Memory
  -- the pool was made, and this was said or not
  created : (Tells start → IsCreated (created_layout vdevs) start now) → high ≡ low
      → (printed : Result (Unit {0}) Failed) → HandsOn out out_now created_text printed
      → CreateEnds vdevs out out_now start now low high (written_status printed)

-- a creation that was refused answers why
abbrev pub refused_status : CreateFault → Status
refused_status (HasPool newest) = NotAPool (AlreadyPool newest)
refused_status CreateFailed = DeviceFault
refused_status CreateMemory = Memory

-- that a pool was created is said, or the sink failed
pub record IsAnnounced (out out_now : SinkState) (status : Status) : Type 0 where
  pub printed : Result (Unit {0}) Failed
  pub prints : HandsOn out out_now created_text printed
  pub status_is : status ≡ written_status printed

-- what making a pool says of the device
pub record MakesPool (layout : Layout) (start now : DiskState) (low high : ℕ) (made : Result (Unit {0}) CreateFault) : Type 0 where
  pub fault : Tells start → IfErr made (IsCreateFault (bytes_of start))
  pub none : Tells start → OnOk made (HasNone (bytes_of start))
  pub creating : Tells start → IsCreating layout start now
  pub done : Tells start → OnOk made (IsMade now layout)
  pub memory : Tells start → IsErrOf made CreateMemory → IsUnmade start now
  pub steady : (IsErrOf made CreateFailed → ⊥) → high ≡ low
  pub failed : IsErrOf made CreateFailed → high ≡ one_more low
