use Rattle.std.proofs.Common.{Some}
use Rattle.seg_order.specs.Trees.{stored_height}
use Rattle.range_tree.specs.Nodes.{place_rules}
use Rattle.range_tree.proofs.Steering.{Steers}
use Rattle.range_tree.proofs.seeking.first_long.Given as goal

abbrev pub invariant-down : goal.invariant-down
invariant-down l = Steers l.pool l.count l.fn.root l.no l.visits

abbrev pub decreases-down : goal.decreases-down
decreases-down l = stored_height place_rules l.pool (Some l.no)
