use Rattle.seg_order.specs.Trees.{stored_height}
use Rattle.seg_order.proofs.raising.+insert_below.Given as goal

abbrev pub decreases-insert_below : goal.decreases-insert_below
decreases-insert_below g l = stored_height g.O.Order.rules l.pool.now l.root
