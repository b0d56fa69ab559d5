use Rattle.std.proofs.Common.{arith, Some, sym}
use Rattle.seg_order.proofs.Standing.{Opened, opens}
use Rattle.seg_order.proofs.Turns.{twice_first, twice_second, twice_high, twice_far, twice_third, twice_top, turned_twice}
use Rattle.seg_order.proofs.turning.turn_twice.Given.{Over}
use Rattle.seg_order.proofs.turning.turn_twice.Goals as goal
use Rattle.seg_order.proofs.turning.turn_twice.Goals.{After-toward-high}

opened : (g : Over) (c : After-toward-high g) → Opened g.O.Order.rules c.args.pool.now c.args.side c.args.top c.toward-outer.result (Some c.args.mid)
opened g c =
    opens g.O.Order.rules c.args.pool.now c.args.side c.args.top _ _ c.requires.under.near_stands (cc) (sym c.requires.inner)

inner : (g : Over) (c : After-toward-high g) → Opened g.O.Order.rules c.args.pool.now c.args.side c.args.mid c.toward-low.result c.toward-high.result
inner g c =
    opens g.O.Order.rules c.args.pool.now c.args.side c.args.mid _ _ (opened g c).far_stands (cc) (cc)

pub join-requires-clause-under : goal.join-requires-clause-under
join-requires-clause-under g c =
    let d = (goal.at.join-requires-clause-under g c).After-toward-high in
    twice_first g.O.Order.rules g.met.O.Order.lawful c.requires.under (opened g d) (inner g d)

pub join-requires-clause-balanced : goal.join-requires-clause-balanced
join-requires-clause-balanced g c =
    let d = (goal.at.join-requires-clause-balanced g c).After-toward-high in
    let o = opened g d in
    let m = inner g d in
    let b = o.balanced in
    let e = m.balanced in
    omega (arith, o.height, o.near_height, m.height, b, e)

pub join-requires-clause-low : goal.join-requires-clause-low
join-requires-clause-low g c =
    let d = (goal.at.join-requires-clause-low g c).After-toward-high in
    let o = opened g d in
    let m = inner g d in
    omega (arith, o.height, o.near_height, m.height)

pub join-requires-2-clause-under : goal.join-requires-2-clause-under
join-requires-2-clause-under g c =
    let d = (goal.at.join-requires-2-clause-under g c).After-toward-high in
    twice_second g.O.Order.rules g.met.O.Order.lawful c.requires.under (opened g d) (inner g d) c.join.ensures

pub join-requires-2-clause-balanced : goal.join-requires-2-clause-balanced
join-requires-2-clause-balanced g c =
    let d = (goal.at.join-requires-2-clause-balanced g c).After-toward-high in
    let o = opened g d in
    let m = inner g d in
    let b = o.balanced in
    let e = m.balanced in
    let h = twice_high g.O.Order.rules g.met.O.Order.lawful c.requires.under o m c.join.ensures in
    let f = twice_far g.O.Order.rules g.met.O.Order.lawful c.requires.under o m c.join.ensures in
    omega (arith, o.height, o.near_height, m.height, b, e, h, f)

pub join-requires-2-clause-low : goal.join-requires-2-clause-low
join-requires-2-clause-low g c =
    let d = (goal.at.join-requires-2-clause-low g c).After-toward-high in
    let o = opened g d in
    let m = inner g d in
    let h = twice_high g.O.Order.rules g.met.O.Order.lawful c.requires.under o m c.join.ensures in
    let f = twice_far g.O.Order.rules g.met.O.Order.lawful c.requires.under o m c.join.ensures in
    omega (arith, o.height, o.near_height, m.height, h, f)

pub join-requires-3-clause-under : goal.join-requires-3-clause-under
join-requires-3-clause-under g c =
    let d = (goal.at.join-requires-3-clause-under g c).After-toward-high in
    twice_third g.O.Order.rules g.met.O.Order.lawful c.requires.under (opened g d) (inner g d) c.join.ensures c.join-2.ensures

pub join-requires-3-clause-balanced : goal.join-requires-3-clause-balanced
join-requires-3-clause-balanced g c =
    let d = (goal.at.join-requires-3-clause-balanced g c).After-toward-high in
    let o = opened g d in
    let m = inner g d in
    let b = o.balanced in
    let e = m.balanced in
    let h = twice_high g.O.Order.rules g.met.O.Order.lawful c.requires.under o m c.join.ensures in
    let f = twice_far g.O.Order.rules g.met.O.Order.lawful c.requires.under o m c.join.ensures in
    let t = twice_top g.O.Order.rules g.met.O.Order.lawful c.requires.under o m c.join.ensures c.join-2.ensures in
    let one = c.join.ensures.level (omega (arith, o.height, o.near_height, m.height, b, e)) in
    let two = c.join-2.ensures.level (omega (arith, o.height, o.near_height, m.height, b, e, h, f)) in
    omega (arith, o.height, o.near_height, m.height, b, e, h, f, t, one, two)

pub join-requires-3-clause-low : goal.join-requires-3-clause-low
join-requires-3-clause-low g c =
    let d = (goal.at.join-requires-3-clause-low g c).After-toward-high in
    let o = opened g d in
    let m = inner g d in
    let b = o.balanced in
    let e = m.balanced in
    let h = twice_high g.O.Order.rules g.met.O.Order.lawful c.requires.under o m c.join.ensures in
    let f = twice_far g.O.Order.rules g.met.O.Order.lawful c.requires.under o m c.join.ensures in
    let t = twice_top g.O.Order.rules g.met.O.Order.lawful c.requires.under o m c.join.ensures c.join-2.ensures in
    let one = c.join.ensures.level (omega (arith, o.height, o.near_height, m.height, b, e)) in
    let two = c.join-2.ensures.level (omega (arith, o.height, o.near_height, m.height, b, e, h, f)) in
    omega (arith, o.height, o.near_height, m.height, b, e, h, f, t, one, two)

pub returns : goal.returns
returns g c =
    let d = (goal.at.returns g c).After-toward-high in
    let o = opened g d in
    turned_twice g.O.Order.rules g.met.O.Order.lawful c.requires.under o (inner g d) c.join.ensures c.join-2.ensures c.join-3.ensures c.requires.leans (omega (arith, o.near_height))
