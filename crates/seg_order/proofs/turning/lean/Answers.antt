use Rattle.std.proofs.Common.{Some, refl, subst}
use Rattle.seg_order.specs.Trees.{StandsFrom}
use Rattle.seg_order.proofs.Standing.{opens, in_use}
use Rattle.seg_order.proofs.turning.lean.Given.{Over}
use Rattle.seg_order.proofs.turning.lean.Goals as goal
use Rattle.seg_order.proofs.turning.lean.Goals.{After-toward}

top_stands : (g : Over) (c : After-toward g) → StandsFrom g.O.Order.rules c.args.pool.now (Some c.in-Some.top)
top_stands g c = subst (StandsFrom g.O.Order.rules c.args.pool.now) c.in-Some.is c.requires.under.near_stands

pub height-outer-requires : goal.height-outer-requires
height-outer-requires g c =
    let o = opens g.O.Order.rules c.args.pool.now c.args.side c.in-Some.top c.toward.result _ (top_stands g (goal.at.height-outer-requires g c).After-toward) (cc) refl in
    in_use g.O.Order.rules c.args.pool.now c.toward.result o.near_stands

pub height-requires : goal.height-requires
height-requires g c =
    let o = opens g.O.Order.rules c.args.pool.now c.args.side c.in-Some.top c.toward.result c.toward-inner.result (top_stands g (goal.at.height-requires g c).After-toward) (cc) (cc) in
    in_use g.O.Order.rules c.args.pool.now c.toward-inner.result o.far_stands
