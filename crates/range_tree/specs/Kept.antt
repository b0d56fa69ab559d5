-- What one tree keeps in a pool, and what a change of it leaves to others.
use Rattle.std.specs.Prelude.{◌≡◌, ℕ, ◌+◌, ◌^◌, ◌<◌, ◌≤◌, ◌⊎◌, ◌&&◌, nat_le, nat_lt, Bool, false, Option, Some, None, IsSome, List, length, map, slice_index}
use Rattle.std.specs.List.{Contains, sum_by, count_by}
use Rattle.zms_units.specs.declared.segments.Seg.{Seg}
use Rattle.zms_units.specs.Segments.{end_of, covered}
use Rattle.zms_units.specs.Apart.{AreApartFrom}
use Rattle.seg_pool.specs.Pool.{Pool, node_at, used}
use Rattle.seg_order.specs.Lists.{Each, IsApart}
use Rattle.seg_order.specs.Trees.{nodes_from, IsOver}
use Rattle.range_tree.specs.declared.node.RunNode.{RunNode}
use Rattle.range_tree.specs.declared.tree.Tree.{Tree}
use Rattle.range_tree.specs.Nodes.{place_rules, size_rules}

-- the run of a node, an empty one where there is none
abbrev pub seg_of : Option RunNode → Seg
seg_of None = record { start = 0; count = 0 }
seg_of (Some node) = node.seg

module _ (pool : Pool RunNode) where
  abbrev pub seg_at : ℕ → Seg
  seg_at at = seg_of (node_at pool at)

  -- the places of a tree's nodes, in the order by place and in that by size
  abbrev pub placed : Tree → List ℕ
  placed tree = nodes_from place_rules pool tree.places.root

  abbrev pub sized : Tree → List ℕ
  sized tree = nodes_from size_rules pool tree.sizes.root

  -- the runs of a tree, by rising place
  abbrev pub runs_of : Tree → List Seg
  runs_of tree = map seg_at (placed tree)

  -- the units of a tree
  abbrev pub units_of : Tree → ℕ → Bool
  units_of tree u = covered (runs_of tree) u

-- is this bit the highest set bit of a run's length in units?
abbrev pub is_long_as : ℕ → Seg → Bool
is_long_as bit run = nat_le (2 ^ bit) run.count && nat_lt run.count (2 ^ (bit + 1))

-- both orders of a tree stand over the pool with the same nodes, whose runs stand apart, and the counts are theirs
pub record IsTree (pool : Pool RunNode) (tree : Tree) : Type 0 where
  pub places : IsOver place_rules pool tree.places.root
  pub sizes : IsOver size_rules pool tree.sizes.root
  pub all_sized : Each (λ at. Contains (sized pool tree) at) (placed pool tree)
  pub all_placed : Each (λ at. Contains (placed pool tree) at) (sized pool tree)
  pub as_many : length (sized pool tree) ≡ length (placed pool tree)
  pub apart : AreApartFrom 0 131073 (runs_of pool tree)
  pub nodes : tree.nodes ≡ length (placed pool tree)
  pub units : tree.units ≡ sum_by (λ (run : Seg). run.count) (runs_of pool tree)
  pub bits : length tree.lengths ≡ 18
  pub lengths : (bit : ℕ) → bit < 18 → slice_index tree.lengths bit ≡ count_by (is_long_as bit) (runs_of pool tree)

-- a change of one tree left all nodes but its own, and it took only places that were vacant
pub record Touches (old new : Pool RunNode) (before after : List ℕ) : Type 0 where
  pub kept : (at : ℕ) → IsSome (node_at old at) → IsApart at before → node_at new at ≡ node_at old at
  pub fresh : Each (λ at. Contains before at ⊎ (node_at old at ≡ None)) after
  pub used : used new + length before ≡ used old + length after
  pub spare : new.spare + length after ≡ old.spare + length before

-- no unit of a run or beside it is in a set
abbrev pub HoldsNoneAround : (ℕ → Bool) → Seg → Type 0
HoldsNoneAround set run = (u : ℕ) → run.start ≤ u + 1 → u ≤ end_of run → set u ≡ false
