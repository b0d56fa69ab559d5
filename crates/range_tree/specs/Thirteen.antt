-- Thirteen trees over one pool, and what a change of one of them leaves.
use Rattle.std.specs.Prelude.{◌≡◌, ℕ, ◌+◌, ◌<◌, ◌≢◌, not, ◌&&◌, List, length, slice_index_or}
use Rattle.std.specs.List.{All, sum_by}
use Rattle.zms_units.specs.declared.segments.Seg.{Seg}
use Rattle.zms_units.specs.Segments.{covers}
use Rattle.seg_trees.specs.Kept.{TreeLists, sets_of}
use Rattle.seg_trees.specs.Sets.{nodes_of, HoldsAll, IsSegment, OthersStay, TakesNone}
use Rattle.seg_pool.specs.Pool.{Pool, used}
use Rattle.seg_order.specs.Lists.{AreApart}
use Rattle.range_tree.specs.declared.node.RunNode.{RunNode}
use Rattle.range_tree.specs.declared.tree.Tree.{Tree}
use Rattle.range_tree.specs.Kept.{placed, IsTree}

-- each is a tree, no two share a node, and all nodes in use are theirs
pub record AreTrees (pool : Pool RunNode) (trees : List Tree) : Type 0 where
  pub thirteen : length trees ≡ 13
  pub each : All (IsTree pool) trees
  pub apart : (i k : ℕ) (d : Tree) → i < length trees → k < length trees → i ≢ k → AreApart (placed pool (slice_index_or trees i d)) (placed pool (slice_index_or trees k d))
  pub used_by : used pool ≡ sum_by (λ t. length (placed pool t)) trees

-- one tree alone changed, and no memory was taken
pub record ChangesOne (old new : TreeLists) (tree : ℕ) : Type 0 where
  pub others : OthersStay (sets_of old.lists) (sets_of new.lists) tree
  pub memory : TakesNone old.spare (sets_of old.lists) new.spare (sets_of new.lists)

-- a whole run left a tree, and its node is spare
pub record LosesRun (old new : TreeLists) (tree : ℕ) (run : Seg) : Type 0 where
  pub segment : IsSegment run
  pub held : HoldsAll (sets_of old.lists tree) run
  pub removed : (u : ℕ) → sets_of new.lists tree u ≡ (not (covers run u) && sets_of old.lists tree u)
  pub changes : ChangesOne old new tree
  pub spare : new.spare ≡ old.spare + 1
  pub nodes : nodes_of (sets_of new.lists tree) + 1 ≡ nodes_of (sets_of old.lists tree)
