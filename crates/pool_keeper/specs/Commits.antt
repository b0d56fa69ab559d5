-- What a commit or a read leaves of a keeper's store, by the journals of a sound keeper.
use Rattle.std.specs.Prelude.{◌≡◌, ℕ, ◌+◌, ◌<◌, Bool, Option, Some, None, Result, Ok, Err}
use Rattle.zms_units.specs.declared.faults.First.{First}
use Rattle.zms_units.specs.declared.places.MsId.{MsId}
use Rattle.zms_dev.specs.Disk.{DiskState}
use Rattle.vdev_map.specs.Numbers.{row_at}
use Rattle.ms_cell.specs.Passes.{origin_in}
use Rattle.meta_store.specs.Stores.{StoreState}
use Rattle.pool_keeper.specs.History.{contents_of}
use Rattle.pool_keeper.specs.Images.{IsReady, IsHeldBy}
use Rattle.pool_keeper.specs.Groups.{AreCounted}
use Rattle.pool_keeper.specs.Notes.{IsCounted}
use Rattle.pool_keeper.specs.Keeper.{IsSound, history_of, unwritten}
use Rattle.pool_keeper.specs.declared.keeper.Keeper.{Keeper}

module _ {D R : Type 0} (state : D → DiskState) (faults : D → ℕ) (k : Keeper D R) (s : IsSound state faults k) where
  -- the store has the next group
  pub record IsCommittedAs (store : StoreState D) : Type 0 where
    pub layout : store.layout ≡ k.store.layout
    pub group : store.table.group.0 ≡ k.store.table.group.0 + 1
    pub counted : AreCounted k.start.store.value.layout.vdevs (k.store.table.group.0 + 1) store.table (origin_in k.start.passes.value) s.journal
    pub counts : IsCounted (faults k.start.store.value.disk) (faults store.disk) None
    pub device : IsReady (history_of k.start unwritten) k.start.store.value.table (state k.start.store.value.disk)
        → IsHeldBy (history_of k.start s.journal) (k.store.table.group.0 + 1) None store.table (state k.start.store.value.disk) (state store.disk)

  -- it has the group of before, and this was met
  pub record IsUncommitted (first : Option First) (store : StoreState D) : Type 0 where
    pub layout : store.layout ≡ k.store.layout
    pub table : store.table ≡ k.store.table
    pub counts : IsCounted (faults k.start.store.value.disk) (faults store.disk) first
    pub device : IsReady (history_of k.start unwritten) k.start.store.value.table (state k.start.store.value.disk)
        → IsHeldBy (history_of k.start s.journal) k.store.table.group.0 first store.table (state k.start.store.value.disk) (state store.disk)

  abbrev pub IsLaidDown : {E : Type 0} → Result (Option First) E → StoreState D → Type 0
  IsLaidDown (Ok None) store = IsCommittedAs store
  IsLaidDown (Ok (Some first)) store = IsUncommitted (Some first) store
  IsLaidDown (Err e) store = IsUncommitted None store

  -- this set is what the device has of a metaslab for the last committed group
  abbrev pub IsOnDevice : MsId → (ℕ → Bool) → Type 0
  IsOnDevice id found =
      IsReady (history_of k.start unwritten) k.start.store.value.table (state k.start.store.value.disk)
      → (u : ℕ) → u < (row_at k.start.store.value.layout.vdevs id.vdev).units → found u ≡ (contents_of (history_of k.start s.journal) k.store.table.group.0).held id u

-- what a read met, if it gave nothing
abbrev pub first_of : {A : Type 0} → Result A (Option First) → Option First
first_of (Ok x) = None
first_of (Err first) = first
