-- What the batches of a group change.
use Rattle.std.specs.Prelude.{◌≡◌, ℕ, ◌+◌, ◌≤◌, ◌⊎◌, ◌==◌, ◌&&◌, if◌then◌else◌, Bool, true, false, List, [], ◌∷◌}
use Rattle.std.specs.List.{All}
use Rattle.zms_units.specs.Segments.{covered, total_of, AreSegs}
use Rattle.zms_units.specs.declared.places.MsId.{MsId}
use Rattle.zms_units.specs.declared.places.VdevRow.{VdevRow}
use Rattle.vdev_map.specs.Numbers.{IsIn, number_of}
use Rattle.vdev_map.specs.declared.layout.Batch.{Batch}
use Rattle.vdev_map.specs.declared.table.Table.{Table}
use Rattle.meta_store.specs.Groups.{Contents}
use Rattle.meta_store.specs.Words.{row_of, units_of}

-- the runs of a batch lie in a metaslab of the table, and the count of units that it holds can follow them
pub record IsBatch (table : Table) (batch : Batch) : Type 0 where
  pub in_table : IsIn table.vdevs batch.id
  pub allocs : AreSegs (units_of table batch.id) batch.allocs
  pub frees : AreSegs (units_of table batch.id) batch.frees
  pub least : total_of batch.frees ≤ (row_of table batch.id).held + total_of batch.allocs
  pub most : (row_of table batch.id).held + total_of batch.allocs ≤ units_of table batch.id + total_of batch.frees

-- metaslabs in order, from a number on, each at most once
abbrev pub AreInOrder : List VdevRow → ℕ → List Batch → Type 0
AreInOrder vdevs low [] = Unit {0}
AreInOrder vdevs low (batch ∷ batches) = (low ≤ number_of vdevs batch.id) × AreInOrder vdevs (number_of vdevs batch.id + 1) batches

-- the batches of one group
pub record AreBatches (table : Table) (batches : List Batch) : Type 0 where
  pub each : All (IsBatch table) batches
  pub order : AreInOrder table.vdevs 0 batches

-- is this the metaslab of a batch?
abbrev pub is_of : Batch → MsId → Bool
is_of batch id = (batch.id.vdev == id.vdev) && (batch.id.index == id.index)

-- is a unit held after the batches, where it was held or not before? One that is allocated and freed is not
abbrev pub after_batches : List Batch → MsId → ℕ → Bool → Bool
after_batches [] id u held = held
after_batches (batch ∷ batches) id u held =
    if is_of batch id then (if covered batch.frees u then false else (if covered batch.allocs u then true else held)) else after_batches batches id u held

-- what a group holds after the batches of the next
abbrev pub after : Contents → List Batch → Contents
after contents batches = record { layout = contents.layout; held = λ id u. after_batches batches id u (contents.held id u) }

-- no unit is allocated that is held, and none is freed that is neither held nor allocated
pub record IsBacked (held : ℕ → Bool) (batch : Batch) : Type 0 where
  pub allocs : (u : ℕ) → covered batch.allocs u ≡ true → held u ≡ false
  pub frees : (u : ℕ) → covered batch.frees u ≡ true → (held u ≡ true) ⊎ (covered batch.allocs u ≡ true)

abbrev pub AreBacked : Contents → List Batch → Type 0
AreBacked contents batches = All (λ batch. IsBacked (contents.held batch.id) batch) batches
