-- The words of a metaslab in the next group, and the row that names them.
use Rattle.std.specs.Prelude.{◌≡◌, ℕ, ◌+◌, ◌*◌, ◌<◌, ◌≤◌, Bool, not, true, false, if◌then◌else◌, List, [], ◌∷◌, length}
use Rattle.zms_units.specs.Segments.{covered, total_of, AreSegs}
use Rattle.zms_units.specs.declared.places.MsId.{MsId}
use Rattle.zms_units.specs.declared.segments.Seg.{Seg}
use Rattle.zms_units.specs.declared.segments.Group.{Group}
use Rattle.vdev_map.specs.Places.{place_of}
use Rattle.vdev_map.specs.declared.layout.Batch.{Batch}
use Rattle.vdev_map.specs.declared.layout.Head.{Head}
use Rattle.vdev_map.specs.declared.places.Piece.TheVariants.{WholeSlot}
use Rattle.vdev_map.specs.declared.table.MsRow.{MsRow}
use Rattle.vdev_map.specs.declared.table.Table.{Table}
use Rattle.space_map.specs.Batches.{condensed}
use Rattle.space_map.specs.Layout.{laid_out, words_of}
use Rattle.meta_store.specs.Batches.{is_of}
use Rattle.meta_store.specs.Words.{row_of, units_of, words_at, words_in, AreHeldRuns}

-- the runs that batches allocate in a metaslab, and those that they free
abbrev pub allocs_of : List Batch → MsId → List Seg
allocs_of [] id = []
allocs_of (batch ∷ batches) id = if is_of batch id then batch.allocs else allocs_of batches id

abbrev pub frees_of : List Batch → MsId → List Seg
frees_of [] id = []
frees_of (batch ∷ batches) id = if is_of batch id then batch.frees else frees_of batches id

-- is a unit held after these runs are allocated and then these are freed?
abbrev pub is_held_after : List Seg → List Seg → ℕ → Bool → Bool
is_held_after allocs frees u held = if covered frees u then false else (if covered allocs u then true else held)

-- the runs are what is free of so many units after these that were held, and what is allocated and freed
pub record AreFreeAfter (held allocs frees : List Seg) (units : ℕ) (free : List Seg) : Type 0 where
  pub segs : AreSegs units free
  pub each : (u : ℕ) → u < units → covered free u ≡ not (is_held_after allocs frees u (covered held u))

-- what one group may do to a metaslab: the runs lie in it, and its count of held units can follow them
pub record AreChanges (table : Table) (id : MsId) (allocs frees : List Seg) : Type 0 where
  pub allocs_lie : AreSegs (units_of table id) allocs
  pub frees_lie : AreSegs (units_of table id) frees
  pub least : total_of frees ≤ (row_of table id).held + total_of allocs
  pub most : (row_of table id).held + total_of allocs ≤ units_of table id + total_of frees

-- the words of the next group: what the words of the table's group hold, with the changes
pub record AreNextWords (old : List ℕ) (table : Table) (group : ℕ) (id : MsId) (allocs frees : List Seg) (words : List ℕ) : Type 0 where
  pub held : List Seg
  pub free : List Seg
  pub was : AreHeldRuns (words_in old table id) (units_of table id) held
  pub count : total_of held ≡ (row_of table id).held
  pub left : AreFreeAfter held allocs frees (units_of table id) free
  pub are : words ≡ words_of (laid_out 0 (condensed group (units_of table id) free))

-- where the words of a metaslab lie that a group has
abbrev pub side_place : Head → Table → MsId → Group → ℕ
side_place head table id group = place_of head table.vdevs (WholeSlot id group)

-- the image has the words of the next group, n of them, before its end
pub record HasNextWords (old image : List ℕ) (head : Head) (table : Table) (group : Group) (id : MsId) (allocs frees : List Seg) (n : ℕ) : Type 0 where
  pub words : AreNextWords old table group.0 id allocs frees (words_at image (side_place head table id group) n)
  pub some : 0 < n
  pub lies : side_place head table id group + 8 * n ≤ length image

-- the row of a metaslab in the next group's table
pub record IsNextRow (table : Table) (group : ℕ) (id : MsId) (allocs frees : List Seg) (row : MsRow) : Type 0 where
  pub place : row.place ≡ (row_of table id).place
  pub words : row.words ≤ units_of table id + 64
  pub unflushed : row.unflushed.0 ≡ group + 1
  pub held : row.held + total_of frees ≡ (row_of table id).held + total_of allocs
  pub side : row.side ≡ 0
