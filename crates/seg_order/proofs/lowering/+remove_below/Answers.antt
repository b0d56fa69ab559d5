use Rattle.std.proofs.Common.{◌≡◌, ◌≢◌, ◌≤◌, Some, arith, ap, subst, ◌∙◌, Contains}
use Rattle.seg_order.specs.Trees.{IsSorted, nodes_from, stored_height}
use Rattle.seg_order.proofs.Apart.{Each-in}
use Rattle.seg_order.proofs.Standing.{Opened, opens, in_use, none_empty}
use Rattle.seg_order.proofs.Sorting.{sorted_distinct, on_side, none_contained}
use Rattle.seg_order.proofs.Heights.{is_low, all_used}
use Rattle.seg_order.proofs.Moving.{near_over, remove_far, remove_over, remove_under, removed}
use Rattle.seg_order.proofs.lowering.+remove_below.Given.{Over}
use Rattle.seg_order.proofs.lowering.+remove_below.Goals as goal
use Rattle.seg_order.proofs.lowering.+remove_below.Goals.{After-toward-far}
use Rattle.seg_pool.specs.Pool.{node_at}
use Rattle.std.proofs.Common.{IsSome}

opened : (g : Over) (t : _) (c : After-toward-far g t) → Opened g.O.Order.rules c.args.pool.now c.side_of-side.result c.args.root c.toward-near.result c.toward-far.result
opened g t c =
    opens g.O.Order.rules c.args.pool.now c.side_of-side.result c.args.root _ _ c.requires.over.stands (cc) (cc)

low : (g : Over) (t : _) (c : After-toward-far g t) → stored_height g.O.Order.rules c.args.pool.now (Some c.args.root) ≤ 51
low g t c =
    is_low g.O.Order.rules c.args.pool.now _ c.requires.over.stands (sorted_distinct g.O.Order.rules g.met.O.Order.lawful c.args.pool.now _ c.requires.over.sorted) c.links_of-links.ensures.places

listed : (g : Over) (t : _) (c : After-toward-far g t) → c.args.no.0 ≢ c.args.root.0 → Contains (nodes_from g.O.Order.rules c.args.pool.now c.toward-near.result) c.args.no.0
listed g t c differs =
    let o = opened g t c in
    on_side g.O.Order.rules g.met.O.Order.lawful c.args.pool.now c.side_of-side.result c.args.no.0 c.args.root.0 _ _ c.side_of-side.ensures differs
    (subst (IsSorted g.O.Order.rules c.args.pool.now) o.list c.requires.over.sorted) (subst (λ q. Contains q c.args.no.0) o.list c.requires.listed)

pub side_of-side-requires-clause-node : goal.side_of-side-requires-clause-node
side_of-side-requires-clause-node g t c =
    Each-in (λ k. IsSome (node_at c.args.pool.now k)) _ c.args.no.0 (all_used g.O.Order.rules c.args.pool.now (Some c.args.root) c.requires.over.stands) c.requires.listed

pub side_of-side-requires-clause-at : goal.side_of-side-requires-clause-at
side_of-side-requires-clause-at g t c = in_use g.O.Order.rules c.args.pool.now (Some c.args.root) c.requires.over.stands

pub links_of-links-requires : goal.links_of-links-requires
links_of-links-requires g t c = in_use g.O.Order.rules c.args.pool.now (Some c.args.root) c.requires.over.stands

pub unreachable-requires : goal.unreachable-requires
unreachable-requires g t c =
    let d = (goal.at.unreachable-requires g t c).After-toward-far in
    let found = listed g t d (λ e. omega arith) in
    none_contained c.args.no.0 (subst (λ q. Contains q c.args.no.0) (ap (nodes_from g.O.Order.rules c.args.pool.now) c.in_default.is ∙ none_empty g.O.Order.rules c.args.pool.now) found)

pub remove_below-rest-requires : goal.remove_below-rest-requires
remove_below-rest-requires g t c =
    let d = (goal.at.remove_below-rest-requires g t c).After-toward-far in
    let o = subst (λ q. Opened g.O.Order.rules c.args.pool.now c.side_of-side.result c.args.root q c.toward-far.result) c.in-Some.is (opened g t d) in
    let e : t ≡ stored_height g.O.Order.rules c.args.pool.now (Some c.args.root) = omega (arith, c.decreases) in
    let found = listed g t d (λ e. omega arith) in
    λ κs within. (omega (arith, o.height, e), (within.0, (within.1, (near_over g.O.Order.rules g.met.O.Order.lawful c.requires.over o, subst (λ q. Contains (nodes_from g.O.Order.rules c.args.pool.now q) c.args.no.0) c.in-Some.is found))))

pub resettle-top-requires-clause-under : goal.resettle-top-requires-clause-under
resettle-top-requires-clause-under g t c =
    let d = (goal.at.resettle-top-requires-clause-under g t c).After-toward-far in
    let o = subst (λ q. Opened g.O.Order.rules c.args.pool.now c.side_of-side.result c.args.root q c.toward-far.result) c.in-Some.is (opened g t d) in
    remove_under g.O.Order.rules g.met.O.Order.lawful c.requires.over o c.remove_below-rest.ensures.removes

pub tell-before-requires : goal.tell-before-requires
tell-before-requires g t c =
    let d = (goal.at.tell-before-requires g t c).After-toward-far in
    let o = subst (λ q. Opened g.O.Order.rules c.args.pool.now c.side_of-side.result c.args.root q c.toward-far.result) c.in-Some.is (opened g t d) in
    in_use g.O.Order.rules c.args.pool.now (Some c.in-Some.below) o.near_stands

pub resettle-top-requires-clause-over : goal.resettle-top-requires-clause-over
resettle-top-requires-clause-over g t c =
    let d = (goal.at.resettle-top-requires-clause-over g t c).After-toward-far in
    let o = subst (λ q. Opened g.O.Order.rules c.args.pool.now c.side_of-side.result c.args.root q c.toward-far.result) c.in-Some.is (opened g t d) in
    remove_over g.O.Order.rules g.met.O.Order.lawful c.requires.over o c.remove_below-rest.ensures.removes (cc) (cc) c.tell-before.ensures.root c.tell-before.ensures.height c.tell-before.ensures.greatest

pub resettle-top-requires-clause-differ : goal.resettle-top-requires-clause-differ
resettle-top-requires-clause-differ g t c =
    let d = (goal.at.resettle-top-requires-clause-differ g t c).After-toward-far in
    let o = subst (λ q. Opened g.O.Order.rules c.args.pool.now c.side_of-side.result c.args.root q c.toward-far.result) c.in-Some.is (opened g t d) in
    let b = o.balanced in
    let r = c.remove_below-rest.ensures.removes in
    let far = remove_far g.O.Order.rules g.met.O.Order.lawful c.requires.over o r in
    omega (arith, b, far, r.no_lower, r.no_higher)

pub resettle-top-requires-clause-low : goal.resettle-top-requires-clause-low
resettle-top-requires-clause-low g t c =
    let d = (goal.at.resettle-top-requires-clause-low g t c).After-toward-far in
    let o = subst (λ q. Opened g.O.Order.rules c.args.pool.now c.side_of-side.result c.args.root q c.toward-far.result) c.in-Some.is (opened g t d) in
    let r = c.remove_below-rest.ensures.removes in
    let far = remove_far g.O.Order.rules g.met.O.Order.lawful c.requires.over o r in
    omega (arith, low g t d, o.height, far, r.no_higher)

pub overflow_add-result : goal.overflow_add-result
overflow_add-result g t c =
    let d = (goal.at.overflow_add-result g t c).After-toward-far in
    let o = subst (λ q. Opened g.O.Order.rules c.args.pool.now c.side_of-side.result c.args.root q c.toward-far.result) c.in-Some.is (opened g t d) in
    omega (arith, low g t d, o.height, c.remove_below-rest.ensures.visits)

pub returns-clause-removes : goal.returns-clause-removes
returns-clause-removes g t c =
    let d = (goal.at.returns-clause-removes g t c).After-toward-far in
    let o = subst (λ q. Opened g.O.Order.rules c.args.pool.now c.side_of-side.result c.args.root q c.toward-far.result) c.in-Some.is (opened g t d) in
    removed g.O.Order.rules g.met.O.Order.lawful c.requires.over o c.remove_below-rest.ensures.removes c.resettle-top.ensures

pub returns-clause-visits : goal.returns-clause-visits
returns-clause-visits g t c =
    let d = (goal.at.returns-clause-visits g t c).After-toward-far in
    let o = subst (λ q. Opened g.O.Order.rules c.args.pool.now c.side_of-side.result c.args.root q c.toward-far.result) c.in-Some.is (opened g t d) in
    omega (arith, o.height, c.remove_below-rest.ensures.visits)
