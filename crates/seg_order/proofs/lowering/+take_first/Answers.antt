use Rattle.std.proofs.Common.{◌≡◌, ◌≤◌, Some, arith, ap, sym, subst, ◌∙◌}
use Rattle.seg_order.specs.declared.links.Links.{Links}
use Rattle.seg_order.specs.declared.links.Side.TheVariants.{Left}
use Rattle.seg_order.specs.Trees.{stored_height, stored_greatest}
use Rattle.seg_order.proofs.Standing.{Opened, opens, in_use}
use Rattle.seg_order.proofs.Sorting.{sorted_distinct}
use Rattle.seg_order.proofs.Heights.{is_low}
use Rattle.seg_order.proofs.Moving.{near_over, remove_far, remove_over, remove_under, removed_top_right, removed_first}
use Rattle.seg_order.proofs.lowering.+take_first.Given.{Over}
use Rattle.seg_order.proofs.lowering.+take_first.Goals as goal
use Rattle.seg_order.proofs.lowering.+take_first.Goals.{After-links_of-links}

opened : (g : Over) (t : _) (c : After-links_of-links g t) → Opened g.O.Order.rules c.args.pool.now Left c.args.root c.links_of-links.result.left c.links_of-links.result.right
opened g t c =
    opens g.O.Order.rules c.args.pool.now Left c.args.root _ _ c.requires.over.stands
    (ap (λ (q : Links). q.left) c.links_of-links.ensures.links) (ap (λ (q : Links). q.right) c.links_of-links.ensures.links)

low : (g : Over) (t : _) (c : After-links_of-links g t) → stored_height g.O.Order.rules c.args.pool.now (Some c.args.root) ≤ 51
low g t c =
    is_low g.O.Order.rules c.args.pool.now _ c.requires.over.stands (sorted_distinct g.O.Order.rules g.met.O.Order.lawful c.args.pool.now _ c.requires.over.sorted) c.links_of-links.ensures.places

pub links_of-links-requires : goal.links_of-links-requires
links_of-links-requires g t c = in_use g.O.Order.rules c.args.pool.now (Some c.args.root) c.requires.over.stands

pub returns-in_default-clause-removes : goal.returns-in_default-clause-removes
returns-in_default-clause-removes g t c =
    let d = (goal.at.returns-in_default-clause-removes g t c).After-links_of-links in
    removed_top_right g.O.Order.rules g.met.O.Order.lawful (opened g t d) c.in_default.is

pub returns-in_default-clause-visits : goal.returns-in_default-clause-visits
returns-in_default-clause-visits g t c =
    let o = opened g t (goal.at.returns-in_default-clause-visits g t c).After-links_of-links in
    omega (arith, o.height)

pub take_first-rest-requires : goal.take_first-rest-requires
take_first-rest-requires g t c =
    let d = (goal.at.take_first-rest-requires g t c).After-links_of-links in
    let o = subst (λ q. Opened g.O.Order.rules c.args.pool.now Left c.args.root q c.links_of-links.result.right) c.in-Some.is (opened g t d) in
    let e : t ≡ stored_height g.O.Order.rules c.args.pool.now (Some c.args.root) = omega (arith, c.decreases) in
    λ κs within. (omega (arith, o.height, e), (within.0, (within.1, near_over g.O.Order.rules g.met.O.Order.lawful c.requires.over o)))

pub resettle-top-requires-clause-under : goal.resettle-top-requires-clause-under
resettle-top-requires-clause-under g t c =
    let d = (goal.at.resettle-top-requires-clause-under g t c).After-links_of-links in
    let o = subst (λ q. Opened g.O.Order.rules c.args.pool.now Left c.args.root q c.links_of-links.result.right) c.in-Some.is (opened g t d) in
    remove_under g.O.Order.rules g.met.O.Order.lawful c.requires.over o c.take_first-rest.ensures.removes.removes

pub tell-before-requires : goal.tell-before-requires
tell-before-requires g t c =
    let d = (goal.at.tell-before-requires g t c).After-links_of-links in
    in_use g.O.Order.rules c.args.pool.now c.links_of-links.result.left (opened g t d).near_stands

pub resettle-top-requires-clause-over : goal.resettle-top-requires-clause-over
resettle-top-requires-clause-over g t c =
    let d = (goal.at.resettle-top-requires-clause-over g t c).After-links_of-links in
    let o = subst (λ q. Opened g.O.Order.rules c.args.pool.now Left c.args.root q c.links_of-links.result.right) c.in-Some.is (opened g t d) in
    remove_over g.O.Order.rules g.met.O.Order.lawful c.requires.over o c.take_first-rest.ensures.removes.removes (sym c.in-Some.is ∙ ap (λ (q : Links). q.left) c.links_of-links.ensures.links) (ap (λ (q : Links). q.right) c.links_of-links.ensures.links) (c.tell-before.ensures.root ∙ c.in-Some.is) (c.tell-before.ensures.height ∙ ap (stored_height g.O.Order.rules c.args.pool.now) c.in-Some.is) (c.tell-before.ensures.greatest ∙ ap (stored_greatest g.O.Order.rules c.args.pool.now) c.in-Some.is)

pub resettle-top-requires-clause-differ : goal.resettle-top-requires-clause-differ
resettle-top-requires-clause-differ g t c =
    let d = (goal.at.resettle-top-requires-clause-differ g t c).After-links_of-links in
    let o = subst (λ q. Opened g.O.Order.rules c.args.pool.now Left c.args.root q c.links_of-links.result.right) c.in-Some.is (opened g t d) in
    let b = o.balanced in
    let r = c.take_first-rest.ensures.removes.removes in
    let far = remove_far g.O.Order.rules g.met.O.Order.lawful c.requires.over o r in
    omega (arith, b, far, r.no_lower, r.no_higher)

pub resettle-top-requires-clause-low : goal.resettle-top-requires-clause-low
resettle-top-requires-clause-low g t c =
    let d = (goal.at.resettle-top-requires-clause-low g t c).After-links_of-links in
    let o = subst (λ q. Opened g.O.Order.rules c.args.pool.now Left c.args.root q c.links_of-links.result.right) c.in-Some.is (opened g t d) in
    let r = c.take_first-rest.ensures.removes.removes in
    let far = remove_far g.O.Order.rules g.met.O.Order.lawful c.requires.over o r in
    omega (arith, low g t d, o.height, far, r.no_higher)

pub overflow_add-result : goal.overflow_add-result
overflow_add-result g t c =
    let d = (goal.at.overflow_add-result g t c).After-links_of-links in
    let o = subst (λ q. Opened g.O.Order.rules c.args.pool.now Left c.args.root q c.links_of-links.result.right) c.in-Some.is (opened g t d) in
    omega (arith, low g t d, o.height, c.take_first-rest.ensures.visits)

pub returns-clause-removes : goal.returns-clause-removes
returns-clause-removes g t c =
    let d = (goal.at.returns-clause-removes g t c).After-links_of-links in
    let o = subst (λ q. Opened g.O.Order.rules c.args.pool.now Left c.args.root q c.links_of-links.result.right) c.in-Some.is (opened g t d) in
    removed_first g.O.Order.rules g.met.O.Order.lawful c.requires.over o c.take_first-rest.ensures.removes c.resettle-top.ensures

pub returns-clause-visits : goal.returns-clause-visits
returns-clause-visits g t c =
    let d = (goal.at.returns-clause-visits g t c).After-links_of-links in
    let o = subst (λ q. Opened g.O.Order.rules c.args.pool.now Left c.args.root q c.links_of-links.result.right) c.in-Some.is (opened g t d) in
    omega (arith, o.height, c.take_first-rest.ensures.visits)
