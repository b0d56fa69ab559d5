use Rattle.std.proofs.Common.{ℕ, Some}
use Rattle.seg_pool.specs.Pool.{node_at}
use Rattle.seg_order.specs.Sides.{comes_before}
use Rattle.seg_order.specs.Trees.{stored_height}
use Rattle.seg_order.proofs.Looking.{Descends}
use Rattle.seg_order.proofs.order.SegOrder.first_at_or_after.Given as goal

abbrev pub invariant-loop-below : goal.invariant-loop-below
invariant-loop-below g l = Descends g.O.Order.rules l.pool (λ (one : ℕ). comes_before g.O.Order.rules (node_at l.pool one) (Some l.key)) l.self.root l.below l.found l.visits

abbrev pub decreases-loop-below : goal.decreases-loop-below
decreases-loop-below g l = stored_height g.O.Order.rules l.pool l.below
