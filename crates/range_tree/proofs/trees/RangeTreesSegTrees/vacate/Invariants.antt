use Rattle.std.proofs.Common.{◌≡◌, ◌≤◌, ℕ}
use Rattle.std.specs.Prelude.{◌||◌}
use Rattle.seg_trees.specs.Sets.{nodes_of, AreDisjoint, OthersStayBut, TakesNone}
use Rattle.seg_trees.specs.Kept.{sets_of}
use Rattle.range_tree.proofs.trees.RangeTreesSegTrees.vacate.Given as goal

abbrev pub invariant-loop-run : goal.invariant-loop-run
invariant-loop-run l = record {
  both : (u : ℕ) → (sets_of l.self.lists l.from u || sets_of l.self.lists l.into u) ≡ (sets_of l.fn.self.lists l.from u || sets_of l.fn.self.lists l.into u);
  apart : AreDisjoint (sets_of l.self.lists l.from) (sets_of l.self.lists l.into);
  others : OthersStayBut (sets_of l.fn.self.lists) (sets_of l.self.lists) l.from l.into;
  spare : l.fn.self.spare ≤ l.self.spare;
  memory : TakesNone l.fn.self.spare (sets_of l.fn.self.lists) l.self.spare (sets_of l.self.lists);
}

abbrev pub decreases-loop-run : goal.decreases-loop-run
decreases-loop-run l = nodes_of (sets_of l.self.lists l.from)
