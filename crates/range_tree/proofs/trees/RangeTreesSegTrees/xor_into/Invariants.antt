use Rattle.std.proofs.Common.{◌≡◌, ◌+◌, ◌-◌, ◌≤◌, ℕ}
use Rattle.std.specs.Prelude.{◌||◌, ◌&&◌, not}
use Rattle.zms_units.specs.Segments.{covers}
use Rattle.seg_trees.specs.Sets.{OthersStayBut, TakesNone}
use Rattle.seg_trees.specs.Kept.{sets_of}
use Rattle.range_tree.proofs.trees.RangeTreesSegTrees.xor_into.Given as goal

abbrev pub invariant-loop-at : goal.invariant-loop-at
invariant-loop-at l = record {
  low : l.fn.seg.start ≤ l.at;
  high : l.at ≤ l.end;
  from_set : (u : ℕ) → sets_of l.self.lists l.from u ≡ (not (covers (record { start = l.fn.seg.start; count = l.at - l.fn.seg.start }) u) && sets_of l.fn.self.lists l.from u);
  into_set : (u : ℕ) → sets_of l.self.lists l.into u ≡ ((covers (record { start = l.fn.seg.start; count = l.at - l.fn.seg.start }) u && not (sets_of l.fn.self.lists l.from u)) || sets_of l.fn.self.lists l.into u);
  others : OthersStayBut (sets_of l.fn.self.lists) (sets_of l.self.lists) l.from l.into;
  spare : l.fn.self.spare + l.fn.seg.start ≤ l.self.spare + l.at;
  memory : TakesNone l.fn.self.spare (sets_of l.fn.self.lists) l.self.spare (sets_of l.self.lists);
}

abbrev pub decreases-loop-at : goal.decreases-loop-at
decreases-loop-at l = l.end - l.at
