-- What the plain form keeps, and what contracts see of it.
use Rattle.std.specs.Prelude.{ℕ, ◌^◌, ◌≤◌, List, [], length, map, slice_index_or}
use Rattle.std.specs.List.{sum_by, All}
use Rattle.zms_units.specs.declared.segments.Seg.{Seg}
use Rattle.zms_units.specs.Segments.{covered}
use Rattle.seg_trees.specs.OneSet.{OneSet, IsWhole}
use Rattle.seg_trees.specs.Sets.{Sets}

-- the runs of each tree, and for how many further runs there is memory
pub record TreeLists : Type 0 where
  pub lists : List (List Seg)
  pub spare : ℕ

-- the units of each tree
abbrev pub sets_of : List (List Seg) → Sets
sets_of lists tree u = covered (slice_index_or lists tree []) u

-- the runs of each tree
abbrev pub lists_of : List OneSet → List (List Seg)
lists_of trees = map (λ (t : OneSet). t.runs) trees

-- how many runs the trees have together
abbrev pub runs_in : List OneSet → ℕ
runs_in trees = sum_by (λ (t : OneSet). length t.runs) trees

-- each tree, and the vector in which two are merged, has room for all runs that may ever be in use; no tree keeps a run in pieces
pub record HasRoom (trees : List OneSet) (buffer : OneSet) (limit : ℕ) : Type 0 where
  pub most : limit ≤ 2 ^ 24
  pub fits : runs_in trees ≤ limit
  pub room : All (λ (t : OneSet). limit ≤ t.capacity) trees
  pub buffer_room : limit ≤ buffer.capacity
  pub whole : All IsWhole trees
