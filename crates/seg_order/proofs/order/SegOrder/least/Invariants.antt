use Rattle.std.proofs.Common.{ℕ, false}
use Rattle.seg_order.specs.Trees.{stored_height}
use Rattle.seg_order.proofs.Looking.{Descends}
use Rattle.seg_order.proofs.order.SegOrder.least.Given as goal

abbrev pub invariant-loop-below : goal.invariant-loop-below
invariant-loop-below g l = Descends g.O.Order.rules l.pool (λ (_ : ℕ). false) l.self.root l.below l.found l.visits

abbrev pub decreases-loop-below : goal.decreases-loop-below
decreases-loop-below g l = stored_height g.O.Order.rules l.pool l.below
