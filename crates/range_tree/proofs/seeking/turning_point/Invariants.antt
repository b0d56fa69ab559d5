use Rattle.seg_order.specs.Trees.{stored_height}
use Rattle.range_tree.specs.Kept.{IsTree}
use Rattle.range_tree.specs.Nodes.{place_rules}
use Rattle.range_tree.proofs.Steering.{Walks}
use Rattle.range_tree.proofs.seeking.turning_point.Given as goal

abbrev pub invariant-loop-below : goal.invariant-loop-below
invariant-loop-below l = (t : IsTree l.pool l.tree) → Walks t l.count l.at l.below l.point l.visits

abbrev pub decreases-loop-below : goal.decreases-loop-below
decreases-loop-below l = stored_height place_rules l.pool l.below
