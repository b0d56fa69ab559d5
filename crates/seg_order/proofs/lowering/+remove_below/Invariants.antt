use Rattle.std.proofs.Common.{Some}
use Rattle.seg_order.specs.Trees.{stored_height}
use Rattle.seg_order.proofs.lowering.+remove_below.Given as goal

abbrev pub decreases-remove_below : goal.decreases-remove_below
decreases-remove_below g l = stored_height g.O.Order.rules l.pool.now (Some l.root)
