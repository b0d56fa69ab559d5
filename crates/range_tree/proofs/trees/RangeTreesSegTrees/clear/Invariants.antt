use Rattle.std.proofs.Common.{◌≤◌}
use Rattle.seg_trees.specs.Sets.{nodes_of, OthersStay, TakesNone}
use Rattle.seg_trees.specs.Kept.{sets_of}
use Rattle.range_tree.proofs.trees.RangeTreesSegTrees.clear.Given as goal

abbrev pub invariant-loop : goal.invariant-loop
invariant-loop l = record {
  others : OthersStay (sets_of l.fn.self.lists) (sets_of l.self.lists) l.tree;
  spare : l.fn.self.spare ≤ l.self.spare;
  memory : TakesNone l.fn.self.spare (sets_of l.fn.self.lists) l.self.spare (sets_of l.self.lists);
}

abbrev pub decreases-loop : goal.decreases-loop
decreases-loop l = nodes_of (sets_of l.self.lists l.tree)
