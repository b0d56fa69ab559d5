use Rattle.std.proofs.Common.{◌≡◌, ◌<◌, length, take, get_or, ℕ}
use Rattle.zms_units.specs.Segments.{covered}
use Rattle.seg_trees.specs.Sets.{nodes_of}
use Rattle.seg_trees.specs.OneSet.{OneSet}
use Rattle.seg_trees.specs.Kept.{runs_in}
use Rattle.seg_trees.proofs.plain.total.Given as goal

abbrev pub invariant-loop-tree : goal.invariant-loop-tree
invariant-loop-tree l = record {
  sum : l.count ≡ runs_in (take l.tree-index l.trees);
  nodes : (k : ℕ) (d : OneSet) → k < l.tree-index → nodes_of (covered (get_or l.trees k d).runs) ≡ length (get_or l.trees k d).runs;
}
