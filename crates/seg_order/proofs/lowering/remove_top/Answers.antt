use Rattle.std.proofs.Common.{◌≤◌, Some, arith, ap, subst}
use Rattle.seg_order.specs.declared.links.Links.{Links}
use Rattle.seg_order.specs.declared.links.Side.TheVariants.{Left}
use Rattle.seg_order.specs.Trees.{stored_height}
use Rattle.seg_order.proofs.Standing.{Opened, opens, in_use}
use Rattle.seg_order.proofs.Sorting.{sorted_distinct}
use Rattle.seg_order.proofs.Heights.{is_low}
use Rattle.seg_order.proofs.Moving.{far_over, top_height, top_under, removed_top_left, removed_top}
use Rattle.seg_order.proofs.lowering.remove_top.Given.{Over}
use Rattle.seg_order.proofs.lowering.remove_top.Goals as goal
use Rattle.seg_order.proofs.lowering.remove_top.Goals.{After-links_of-links}

opened : (g : Over) (c : After-links_of-links g) → Opened g.O.Order.rules c.args.pool.now Left c.args.root c.links_of-links.result.left c.links_of-links.result.right
opened g c =
    opens g.O.Order.rules c.args.pool.now Left c.args.root _ _ c.requires.over.stands
    (ap (λ (q : Links). q.left) c.links_of-links.ensures.links) (ap (λ (q : Links). q.right) c.links_of-links.ensures.links)

low : (g : Over) (c : After-links_of-links g) → stored_height g.O.Order.rules c.args.pool.now (Some c.args.root) ≤ 51
low g c =
    is_low g.O.Order.rules c.args.pool.now _ c.requires.over.stands (sorted_distinct g.O.Order.rules g.met.O.Order.lawful c.args.pool.now _ c.requires.over.sorted) c.links_of-links.ensures.places

pub links_of-links-requires : goal.links_of-links-requires
links_of-links-requires g c = in_use g.O.Order.rules c.args.pool.now (Some c.args.root) c.requires.over.stands

pub returns-in_default-clause-removes : goal.returns-in_default-clause-removes
returns-in_default-clause-removes g c =
    let d = (goal.at.returns-in_default-clause-removes g c).After-links_of-links in
    removed_top_left g.O.Order.rules g.met.O.Order.lawful (opened g d) c.in_default.is

pub returns-in_default-clause-visits : goal.returns-in_default-clause-visits
returns-in_default-clause-visits g c =
    let o = opened g (goal.at.returns-in_default-clause-visits g c).After-links_of-links in
    omega (arith, o.height)

pub take_first-rest-requires : goal.take_first-rest-requires
take_first-rest-requires g c =
    let d = (goal.at.take_first-rest-requires g c).After-links_of-links in
    let o = subst (λ q. Opened g.O.Order.rules c.args.pool.now Left c.args.root c.links_of-links.result.left q) c.in-Some.is (opened g d) in
    record { over = far_over g.O.Order.rules g.met.O.Order.lawful c.requires.over o }

pub settle-top-requires-clause-under : goal.settle-top-requires-clause-under
settle-top-requires-clause-under g c =
    let d = (goal.at.settle-top-requires-clause-under g c).After-links_of-links in
    let o = subst (λ q. Opened g.O.Order.rules c.args.pool.now Left c.args.root c.links_of-links.result.left q) c.in-Some.is (opened g d) in
    top_under g.O.Order.rules g.met.O.Order.lawful c.requires.over o c.take_first-rest.ensures.removes

pub settle-top-requires-clause-differ : goal.settle-top-requires-clause-differ
settle-top-requires-clause-differ g c =
    let d = (goal.at.settle-top-requires-clause-differ g c).After-links_of-links in
    let o = subst (λ q. Opened g.O.Order.rules c.args.pool.now Left c.args.root c.links_of-links.result.left q) c.in-Some.is (opened g d) in
    let b = o.balanced in
    let r = c.take_first-rest.ensures.removes.removes in
    let far = top_height g.O.Order.rules g.met.O.Order.lawful c.requires.over o c.take_first-rest.ensures.removes in
    omega (arith, b, far, r.no_lower, r.no_higher)

pub settle-top-requires-clause-low : goal.settle-top-requires-clause-low
settle-top-requires-clause-low g c =
    let d = (goal.at.settle-top-requires-clause-low g c).After-links_of-links in
    let o = subst (λ q. Opened g.O.Order.rules c.args.pool.now Left c.args.root c.links_of-links.result.left q) c.in-Some.is (opened g d) in
    let r = c.take_first-rest.ensures.removes.removes in
    let far = top_height g.O.Order.rules g.met.O.Order.lawful c.requires.over o c.take_first-rest.ensures.removes in
    omega (arith, low g d, o.height, far, r.no_higher)

pub overflow_add-result : goal.overflow_add-result
overflow_add-result g c =
    let d = (goal.at.overflow_add-result g c).After-links_of-links in
    let o = subst (λ q. Opened g.O.Order.rules c.args.pool.now Left c.args.root c.links_of-links.result.left q) c.in-Some.is (opened g d) in
    omega (arith, low g d, o.height, c.take_first-rest.ensures.visits)

pub returns-clause-removes : goal.returns-clause-removes
returns-clause-removes g c =
    let d = (goal.at.returns-clause-removes g c).After-links_of-links in
    let o = subst (λ q. Opened g.O.Order.rules c.args.pool.now Left c.args.root c.links_of-links.result.left q) c.in-Some.is (opened g d) in
    removed_top g.O.Order.rules g.met.O.Order.lawful c.requires.over o c.take_first-rest.ensures.removes c.settle-top.ensures

pub returns-clause-visits : goal.returns-clause-visits
returns-clause-visits g c =
    let d = (goal.at.returns-clause-visits g c).After-links_of-links in
    let o = subst (λ q. Opened g.O.Order.rules c.args.pool.now Left c.args.root c.links_of-links.result.left q) c.in-Some.is (opened g d) in
    omega (arith, o.height, c.take_first-rest.ensures.visits)
