use Rattle.std.proofs.Common.{Some}
use Rattle.seg_order.specs.Trees.{stored_height}
use Rattle.seg_order.proofs.lowering.+take_first.Given as goal

abbrev pub decreases-take_first : goal.decreases-take_first
decreases-take_first g l = stored_height g.O.Order.rules l.pool.now (Some l.root)
