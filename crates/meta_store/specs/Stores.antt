-- A store that is opened.
use Rattle.std.specs.Prelude.{◌≡◌, ℕ, ◌+◌, ◌<◌, ◌≤◌, List}
use Rattle.zms_units.specs.Limits.{GROUPS_END}
use Rattle.zms_dev.specs.Disk.{DiskState, Tells}
use Rattle.vdev_map.specs.Limits.{IsLayout}
use Rattle.vdev_map.specs.Tables.{IsTable}
use Rattle.vdev_map.specs.declared.layout.Head.{Head}
use Rattle.vdev_map.specs.declared.layout.Layout.{Layout}
use Rattle.vdev_map.specs.declared.table.Table.{Table}
use Rattle.uber_ring.specs.Slots.{IsValid, IsNewest}
use Rattle.uber_ring.specs.declared.slot.Uber.{Uber}
use Rattle.meta_store.specs.Causes.{IsAsked}
use Rattle.meta_store.specs.Groups.{HasGroup, HasRows}
use Rattle.meta_store.specs.declared.causes.At.{At}
use Rattle.meta_store.specs.Heads.{head_of}
use Rattle.meta_store.specs.Kept.{LiesIn}

-- its device, its layout, and the table of the group that was opened or committed last
pub record StoreState (D : Type 0) : Type 0 where
  pub disk : D
  pub layout : Layout
  pub table : Table

-- what is kept of it in memory, whatever the device does
pub record IsStore (layout : Layout) (table : Table) : Type 0 where
  pub limits : IsLayout layout
  pub vdevs : table.vdevs ≡ layout.vdevs
  pub fits : IsTable (head_of layout) table

-- the image has the group that a store of this layout and table stands for
abbrev pub HasStore : List ℕ → Uber → Layout → Table → Type 0
HasStore image uber layout table = HasGroup image uber (head_of layout) table

-- the group of an uberblock may be opened, and is the one of such a store
pub record IsOpened (image : List ℕ) (uber : Uber) (layout : Layout) (table : Table) : Type 0 where
  pub early : uber.group.0 < GROUPS_END
  pub has : HasStore image uber layout table

-- the image opens at what is asked for, with this layout and table
pub record Opens (image : List ℕ) (at : At) (layout : Layout) (table : Table) : Type 0 where
  pub uber : Uber
  pub asked : IsAsked image at uber
  pub opened : IsOpened image uber layout table

-- the store may go on from this image: its group is the newest and whole, and each group that stays openable lies before
-- the image's end, and is of the same vdevs
pub record RestsAt (layout : Layout) (table : Table) (image : List ℕ) : Type 0 where
  pub uber : Uber
  pub newest : IsNewest image uber
  pub has : HasStore image uber layout table
  pub lies : (other : Uber) → IsValid image other → uber.group.0 ≤ other.group.0 + 2 → LiesIn image other
  pub alike : (other : Uber) (head : Head) (rows : Table) → IsValid image other → uber.group.0 ≤ other.group.0 + 2 → HasRows image other head rows → rows.vdevs ≡ layout.vdevs

-- and so from each image that a stop now may leave
pub record IsAtRest (disk : DiskState) (layout : Layout) (table : Table) : Type 0 where
  pub tells : Tells disk
  pub each : (c : List ℕ) → disk.may_leave c → RestsAt layout table c
