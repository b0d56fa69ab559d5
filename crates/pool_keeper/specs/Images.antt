-- What the pool device holds at a stop, by the journals.
use Rattle.std.specs.Prelude.{◌≡◌, ℕ, ◌+◌, ◌<◌, ◌≤◌, Option, Some, None, List}
use Rattle.zms_units.specs.Limits.{GROUPS_END}
use Rattle.zms_units.specs.declared.faults.First.{First}
use Rattle.zms_units.specs.declared.faults.First.TheVariants.{Device, Damaged}
use Rattle.zms_dev.specs.Disk.{DiskState, Tells}
use Rattle.zms_dev.specs.Runs.{LeavesOnly, Spares}
use Rattle.vdev_map.specs.declared.layout.Layout.{Layout}
use Rattle.vdev_map.specs.declared.table.Table.{Table}
use Rattle.uber_ring.specs.Slots.{IsValid}
use Rattle.uber_ring.specs.declared.slot.Uber.{Uber}
use Rattle.meta_store.specs.Groups.{Finds, HasNewest}
use Rattle.meta_store.specs.Heads.{head_of}
use Rattle.meta_store.specs.NextGroups.{IsLeft}
use Rattle.meta_store.specs.Rewinds.{Adds}
use Rattle.meta_store.specs.Stores.{Opens, IsAtRest}
use Rattle.meta_store.specs.declared.causes.At.TheVariants.{Group as AtGroup}
use Rattle.pool_keeper.specs.History.{History, contents_of, AllCollected}

-- a group that can be opened where this is the newest: one from the opened group on, and at most two below the newest
pub record IsOpenable (opened newest group : ℕ) : Type 0 where
  pub from : opened ≤ group
  pub to : group ≤ newest
  pub recent : newest ≤ group + 2

-- the image opens at a group
pub record OpensAt (image : List ℕ) (group : ℕ) (layout : Layout) : Type 0 where
  pub table : Table
  pub named : table.group.0 ≡ group
  pub opens : Opens image (AtGroup (record { 0 = group })) layout table

-- the image has groups from this one on, and none that a metaslab has not collected. It opens at each that can be opened, and
-- finds there exactly the units that the group holds by the journals; no other group is recent
pub record Remembers (h : History) (low : ℕ) (image : List ℕ) : Type 0 where
  pub newest : ℕ
  pub is_newest : HasNewest image newest
  pub least : low ≤ newest
  pub most : AllCollected h newest
  pub only : (uber : Uber) → IsValid image uber → newest ≤ uber.group.0 + 2 → h.opened ≤ uber.group.0
  pub finds : (group : ℕ) → IsOpenable h.opened newest group → Finds image group (contents_of h group)
  pub opens : (group : ℕ) → IsOpenable h.opened newest group → group < GROUPS_END → OpensAt image group h.layout

-- a device with which a run may begin: its store is at rest, and each stop leaves the opened group as the journals have it
pub record IsReady (h : History) (table : Table) (disk : DiskState) : Type 0 where
  pub rests : IsAtRest disk h.layout table
  pub left : (c : List ℕ) → disk.may_leave c → Remembers h h.opened c

-- damage was kept
abbrev pub IsDamage : Option First → Type 0
IsDamage None = ⊥
IsDamage (Some (Device before after)) = ⊥
IsDamage (Some (Damaged id damage)) = Unit {0}

-- the places at which no group's words, table or slot lies
abbrev pub IsBeside : Layout → ℕ → Type 0
IsBeside layout p = (group : ℕ) → IsLeft (head_of layout) layout.vdevs group p

-- the device of a run: a stop at any moment since it began leaves an image that remembers, and one now the last committed
-- group too. The next group may be committed while no fault is kept, and damage never is
pub record IsHeldBy (h : History) (group : ℕ) (first : Option First) (table : Table) (start now : DiskState) : Type 0 where
  pub tells : Tells now
  pub run : LeavesOnly start now (Remembers h h.opened)
  pub left : (c : List ℕ) → now.may_leave c → Remembers h group c
  pub rests : first ≡ None → IsAtRest now h.layout table
  pub honest : IsDamage first → ⊥
  pub spares : Spares (IsBeside h.layout) start now
  pub adds : Adds start now
