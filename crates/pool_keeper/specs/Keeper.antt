-- What is true of a keeper between two of its calls.
use Rattle.std.specs.Prelude.{◌≡◌, ℕ, ◌+◌, ◌<◌, ◌≤◌, List, [], length}
use Rattle.zms_dev.specs.Disk.{DiskState}
use Rattle.vdev_map.specs.Numbers.{metaslabs_in}
use Rattle.ms_model.specs.Events.{Event}
use Rattle.ms_model.specs.Gates.{synced_group}
use Rattle.ms_model.specs.declared.notes.Noted.{Noted}
use Rattle.ms_cell.specs.Turns.{Turns}
use Rattle.ms_cell.specs.Passes.{Passes, AreFresh, origin_in}
use Rattle.ms_cell.specs.Journey.{Journey}
use Rattle.ms_cell.specs.GateAnswers.{IsClosedBefore}
use Rattle.meta_store.specs.Stores.{StoreState}
use Rattle.pool_keeper.specs.History.{History}
use Rattle.pool_keeper.specs.Images.{IsReady, IsHeldBy}
use Rattle.pool_keeper.specs.Groups.{AreGathered, AreCounted}
use Rattle.pool_keeper.specs.Notes.{AreNoted, IsCounted}
use Rattle.pool_keeper.specs.declared.keeper.Start.{Start}
use Rattle.pool_keeper.specs.declared.keeper.Keeper.{Keeper}

-- no journal has a note
abbrev pub unwritten : ℕ → List Noted
unwritten k = []

-- a store and passes with which a keeper of these cells may begin: the passes have right 0 and have seen nothing, the cells
-- stand for the store's group, and each row of its table counts the units of the metaslab's base
pub record MayBegin {D : Type 0} (t : Turns) (store : StoreState D) (p : Passes) : Type 0 where
  pub fresh : AreFresh 0 t p
  pub count : length t.metaslabs ≡ metaslabs_in t.vdevs
  pub vdevs : t.vdevs ≡ store.layout.vdevs
  pub opened : t.opened ≡ store.table.group.0
  pub counted : AreCounted store.layout.vdevs store.table.group.0 store.table (origin_in p) unwritten

module _ {D R : Type 0} where
  -- the pool as a keeper was made, with these journals
  abbrev pub history_of : Start D R → (ℕ → List Noted) → History
  history_of s journal = record { layout = s.store.value.layout; opened = s.store.value.table.group.0; origin = origin_in s.passes.value; journal = journal }

  -- the keeper is one of these cells
  abbrev pub IsOf : Turns → Start D R → Type 0
  IsOf t s = MayBegin t s.store.value s.passes.value

  module _ (state : D → DiskState) (faults : D → ℕ) where
    pub record IsSound (k : Keeper D R) : Type 0 where
      -- all that it did in the cells
      pub events : List Event
      pub journey : Journey 0 events k.start.passes.value k.passes
      -- the journals, as far as the commits rest on them
      pub journal : ℕ → List Noted
      pub layout : k.store.layout ≡ k.start.store.value.layout
      pub from : k.start.store.value.table.group.0 ≤ k.store.table.group.0
      pub gathered : AreGathered k.start.store.value.layout.vdevs (origin_in k.start.passes.value) k.store.table.group.0 journal k.passes k.gathered.items
      pub counted : AreCounted k.start.store.value.layout.vdevs k.store.table.group.0 k.store.table (origin_in k.start.passes.value) journal
      pub gate : synced_group k.start.store.value.table.group.0 k.passes.gate.seen ≡ k.store.table.group.0
      pub closed : 0 < length k.gathered.items → IsClosedBefore k.start.store.value.table.group.0 (k.store.table.group.0 + 1) k.passes.gate.seen
      pub noted : AreNoted k.store.table.group.0 k.first k.notes.items
      pub counts : IsCounted (faults k.start.store.value.disk) (faults k.store.disk) k.first
      pub device : IsReady (history_of k.start unwritten) k.start.store.value.table (state k.start.store.value.disk)
          → IsHeldBy (history_of k.start journal) k.store.table.group.0 k.first k.store.table (state k.start.store.value.disk) (state k.store.disk)
