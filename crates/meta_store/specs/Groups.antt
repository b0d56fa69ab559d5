-- What an image holds of a group: its slot, the head, its table, and the words of each metaslab.
use Rattle.std.specs.Prelude.{◌≡◌, ℕ, ◌<◌, Bool, List}
use Rattle.zms_units.specs.declared.places.MsId.{MsId}
use Rattle.vdev_map.specs.Numbers.{IsIn}
use Rattle.vdev_map.specs.declared.layout.Layout.{Layout}
use Rattle.vdev_map.specs.declared.layout.Head.{Head}
use Rattle.vdev_map.specs.declared.table.Table.{Table}
use Rattle.uber_ring.specs.Slots.{IsValid, IsNewest}
use Rattle.uber_ring.specs.TableFields.{HasTable}
use Rattle.uber_ring.specs.declared.slot.Uber.{Uber}
use Rattle.space_map.specs.Replay.{Replays}
use Rattle.space_map.specs.declared.places.MapKind.TheVariants.{Side}
use Rattle.meta_store.specs.Heads.{head_bytes, IsWholeHead}
use Rattle.meta_store.specs.Words.{row_of, units_of, words_in, HoldUnits}

-- the image has a head of version 0, and with it this table for an uberblock
pub record HasRows (image : List ℕ) (uber : Uber) (head : Head) (table : Table) : Type 0 where
  pub has_head : IsWholeHead (head_bytes image) head
  pub has_table : HasTable image head uber table

-- the words of a metaslab can be read, and hold as many units as its row says
abbrev pub IsSound : List ℕ → Table → MsId → Type 0
IsSound image table id = HoldUnits (words_in image table id) (units_of table id) (row_of table id).held

-- the image has the group of an uberblock whole
pub record HasGroup (image : List ℕ) (uber : Uber) (head : Head) (table : Table) : Type 0 where
  pub valid : IsValid image uber
  pub rows : HasRows image uber head table
  pub sound : (id : MsId) → IsIn table.vdevs id → IsSound image table id

-- what a group holds: how the pool is made, and which units of each metaslab are held
pub record Contents : Type 0 where
  pub layout : Layout
  pub held : MsId → ℕ → Bool

-- the layout that a head and a table say
abbrev pub layout_of : Head → Table → Layout
layout_of head table = record { flush = head.flush; log = head.log; vdevs = table.vdevs }

-- a group of the image can be read, and finds these contents: a unit is held where the words that the row of its
-- metaslab names say so
pub record Finds (image : List ℕ) (group : ℕ) (contents : Contents) : Type 0 where
  pub uber : Uber
  pub head : Head
  pub table : Table
  pub named : uber.group.0 ≡ group
  pub has : HasGroup image uber head table
  pub layout : contents.layout ≡ layout_of head table
  pub found : (id : MsId) (u : ℕ) → IsIn table.vdevs id → u < units_of table id → Replays (Side (units_of table id)) (words_in image table id) u (contents.held id u)

-- the greatest group of a valid slot
pub record HasNewest (image : List ℕ) (group : ℕ) : Type 0 where
  pub uber : Uber
  pub newest : IsNewest image uber
  pub named : uber.group.0 ≡ group
