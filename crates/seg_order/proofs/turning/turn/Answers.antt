use Rattle.std.proofs.Common.{arith}
use Rattle.seg_order.proofs.Standing.{Opened, opens}
use Rattle.seg_order.proofs.Turns.{turn_first, turn_second, turn_outer, turned}
use Rattle.seg_order.proofs.turning.turn.Given.{Over}
use Rattle.seg_order.proofs.turning.turn.Goals as goal
use Rattle.seg_order.proofs.turning.turn.Goals.{After-toward-inner}

opened : (g : Over) (c : After-toward-inner g) → Opened g.O.Order.rules c.args.pool.now c.args.side c.args.top c.toward-outer.result c.toward-inner.result
opened g c =
    opens g.O.Order.rules c.args.pool.now c.args.side c.args.top _ _ c.requires.under.near_stands (cc) (cc)

pub join-requires-clause-under : goal.join-requires-clause-under
join-requires-clause-under g c =
    turn_first g.O.Order.rules g.met.O.Order.lawful c.requires.under (opened g (goal.at.join-requires-clause-under g c).After-toward-inner)

pub join-requires-clause-balanced : goal.join-requires-clause-balanced
join-requires-clause-balanced g c =
    let o = opened g (goal.at.join-requires-clause-balanced g c).After-toward-inner in
    let b = o.balanced in
    omega (arith, o.height, b)

pub join-requires-clause-low : goal.join-requires-clause-low
join-requires-clause-low g c =
    let o = opened g (goal.at.join-requires-clause-low g c).After-toward-inner in
    omega (arith, o.height)

pub join-requires-2-clause-under : goal.join-requires-2-clause-under
join-requires-2-clause-under g c =
    turn_second g.O.Order.rules g.met.O.Order.lawful c.requires.under (opened g (goal.at.join-requires-2-clause-under g c).After-toward-inner) c.join.ensures

pub join-requires-2-clause-balanced : goal.join-requires-2-clause-balanced
join-requires-2-clause-balanced g c =
    let o = opened g (goal.at.join-requires-2-clause-balanced g c).After-toward-inner in
    let b = o.balanced in
    let level = c.join.ensures.level (omega (arith, o.height, b)) in
    let outer = turn_outer g.O.Order.rules g.met.O.Order.lawful c.requires.under o c.join.ensures in
    omega (arith, o.height, o.near_height, o.far_height, b, level, outer)

pub join-requires-2-clause-low : goal.join-requires-2-clause-low
join-requires-2-clause-low g c =
    let o = opened g (goal.at.join-requires-2-clause-low g c).After-toward-inner in
    let b = o.balanced in
    let level = c.join.ensures.level (omega (arith, o.height, b)) in
    let outer = turn_outer g.O.Order.rules g.met.O.Order.lawful c.requires.under o c.join.ensures in
    omega (arith, o.height, o.near_height, o.far_height, b, level, outer)

pub returns : goal.returns
returns g c =
    let o = opened g (goal.at.returns g c).After-toward-inner in
    turned g.O.Order.rules g.met.O.Order.lawful c.requires.under o c.join.ensures c.join-2.ensures c.requires.leans (omega (arith, o.near_height, o.far_height))
