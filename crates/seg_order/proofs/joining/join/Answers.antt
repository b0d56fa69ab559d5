use Rattle.std.proofs.Common.{Some, subst, sym}
use Rattle.seg_order.specs.declared.links.Side.TheVariants.{Right}
use Rattle.seg_order.specs.Trees.{stored_height, DifferByAtMost}
use Rattle.seg_order.specs.Changes.{Joins}
use Rattle.seg_order.proofs.Standing.{in_use}
use Rattle.seg_order.proofs.Changing.{joins, flip_joins, flip_under}
use Rattle.seg_order.proofs.joining.join.Goals as goal

pub attach-requires-clause-left : goal.attach-requires-clause-left
attach-requires-clause-left g c = in_use g.O.Order.rules c.args.pool.now c.args.near c.requires.under.near_stands

pub attach-requires-clause-right : goal.attach-requires-clause-right
attach-requires-clause-right g c = in_use g.O.Order.rules c.args.pool.now c.args.far c.requires.under.far_stands

pub attach-requires-in-Right-clause-left : goal.attach-requires-in-Right-clause-left
attach-requires-in-Right-clause-left g c = in_use g.O.Order.rules c.args.pool.now c.args.far c.requires.under.far_stands

pub attach-requires-in-Right-clause-right : goal.attach-requires-in-Right-clause-right
attach-requires-in-Right-clause-right g c = in_use g.O.Order.rules c.args.pool.now c.args.near c.requires.under.near_stands

pub returns-in-Left : goal.returns-in-Left
returns-in-Left g c =
    subst (λ s. Joins g.O.Order.rules s c.args.pool.now c.attach.new.pool c.args.near c.args.far c.args.no.0 (Some c.args.no)) (sym c.in-Left.is)
    (joins g.O.Order.rules g.met.O.Order.lawful c.attach.ensures c.requires.under c.requires.balanced)

pub returns-in-Right : goal.returns-in-Right
returns-in-Right g c =
    let balanced : DifferByAtMost 1 (stored_height g.O.Order.rules c.args.pool.now c.args.far) (stored_height g.O.Order.rules c.args.pool.now c.args.near) = (c.requires.balanced.1, c.requires.balanced.0) in
    subst (λ s. Joins g.O.Order.rules s c.args.pool.now c.attach-in-Right.new.pool c.args.near c.args.far c.args.no.0 (Some c.args.no)) (sym c.in-Right.is)
    (flip_joins g.O.Order.rules Right (joins g.O.Order.rules g.met.O.Order.lawful c.attach-in-Right.ensures (flip_under c.requires.under) balanced))
