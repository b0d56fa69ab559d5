use Rattle.std.proofs.Common.{◌≡◌, ◌<◌, ◌≤◌, get_or, ℕ}
use Rattle.std.specs.List.{All}
use Rattle.seg_trees.specs.OneSet.{OneSet}
use Rattle.seg_trees.specs.Kept.{lists_of}
use Rattle.seg_trees.proofs.plain.reserve_each.Given as goal

abbrev pub invariant-loop-tree : goal.invariant-loop-tree
invariant-loop-tree l = record {
  lists : lists_of l.trees ≡ lists_of l.fn.trees;
  more : (least : ℕ) → All (λ (t : OneSet). least ≤ t.capacity) l.fn.trees → All (λ (t : OneSet). least ≤ t.capacity) l.trees;
  done : (k : ℕ) (d : OneSet) → k < l.tree-index → l.runs ≤ (get_or l.trees k d).capacity;
}
