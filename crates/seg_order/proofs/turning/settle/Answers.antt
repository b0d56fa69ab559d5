use Rattle.seg_order.proofs.Standing.{in_use}
use Rattle.seg_order.proofs.turning.settle.Goals as goal

pub height-levels-requires : goal.height-levels-requires
height-levels-requires g c = in_use g.O.Order.rules c.args.pool.now c.args.near c.requires.under.near_stands

pub height-others-requires : goal.height-others-requires
height-others-requires g c = in_use g.O.Order.rules c.args.pool.now c.args.far c.requires.under.far_stands
