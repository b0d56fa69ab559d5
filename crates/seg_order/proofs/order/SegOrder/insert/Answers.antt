use Rattle.seg_order.proofs.Standing.{FewVisits-is}
use Rattle.seg_order.proofs.Changing.{still_sorted}
use Rattle.seg_order.proofs.order.SegOrder.insert.Goals as goal

pub returns-clause-over : goal.returns-clause-over
returns-clause-over g c =
    let i = c.insert_below-visits.ensures.inserts in
    record { stands = i.stands; sorted = still_sorted g.O.Order.rules g.met.O.Order.lawful i.links _ i.sorted }

pub returns-clause-visits : goal.returns-clause-visits
returns-clause-visits g c =
    FewVisits-is g.O.Order.rules c.args.pool.now c.insert_below-visits.result.1 c.args.self.now.root c.requires.over.stands c.insert_below-visits.ensures.visits
