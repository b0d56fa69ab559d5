use Rattle.std.proofs.Common.{◌≡◌, ◌≤◌, ◌⊎◌, Some, arith, ap, sym, subst, ◌∙◌}
use Rattle.seg_order.specs.Sides.{IsBefore}
use Rattle.seg_order.specs.Trees.{IsOver, Differs, nodes_from, stored_height}
use Rattle.seg_order.specs.Changes.{Inserts}
use Rattle.seg_order.proofs.Apart.{from_between, EachOf}
use Rattle.seg_order.proofs.Standing.{Opened, opens, in_use}
use Rattle.seg_order.proofs.Sorting.{comes, side_comes, sorted_distinct}
use Rattle.seg_order.proofs.Heights.{is_low}
use Rattle.seg_order.proofs.Moving.{none_under, inserted_alone, near_over, insert_far, insert_over, insert_under, inserted}
use Rattle.seg_order.proofs.raising.+insert_below.Given.{Over}
use Rattle.seg_order.proofs.raising.+insert_below.Goals as goal
use Rattle.seg_order.proofs.raising.+insert_below.Goals.{After-toward-far}

opened : (g : Over) (t : _) (c : After-toward-far g t) → Opened g.O.Order.rules c.args.pool.now c.side_of-side.result c.in-Some.at c.toward-near.result c.toward-far.result
opened g t c =
    let v : IsOver g.O.Order.rules c.args.pool.now (Some c.in-Some.at) = subst (IsOver g.O.Order.rules c.args.pool.now) c.in-Some.is c.requires.over in
    opens g.O.Order.rules c.args.pool.now c.side_of-side.result c.in-Some.at _ _ v.stands (cc) (cc)

differs : (g : Over) (t : _) (c : After-toward-far g t) → EachOf (λ one. IsBefore g.O.Order.rules c.args.pool.now c.args.no.0 one ⊎ IsBefore g.O.Order.rules c.args.pool.now one c.args.no.0) (nodes_from g.O.Order.rules c.args.pool.now c.toward-near.result) c.in-Some.at.0 (nodes_from g.O.Order.rules c.args.pool.now c.toward-far.result)
differs g t c =
    from_between (λ one. IsBefore g.O.Order.rules c.args.pool.now c.args.no.0 one ⊎ IsBefore g.O.Order.rules c.args.pool.now one c.args.no.0) c.side_of-side.result _ c.in-Some.at.0 _
    (subst (Differs g.O.Order.rules c.args.pool.now c.args.no.0) (ap (nodes_from g.O.Order.rules c.args.pool.now) c.in-Some.is ∙ (opened g t c).list) c.requires.differs)

turn : (g : Over) (t : _) (c : After-toward-far g t) → comes g.O.Order.rules g.met.O.Order.lawful c.args.pool.now c.side_of-side.result c.args.no.0 c.in-Some.at.0
turn g t c = side_comes g.O.Order.rules g.met.O.Order.lawful c.args.pool.now c.side_of-side.result c.args.no.0 c.in-Some.at.0 c.side_of-side.ensures (differs g t c).at

low : (g : Over) (t : _) (c : After-toward-far g t) → stored_height g.O.Order.rules c.args.pool.now (Some c.in-Some.at) ≤ 51
low g t c =
    let v : IsOver g.O.Order.rules c.args.pool.now (Some c.in-Some.at) = subst (IsOver g.O.Order.rules c.args.pool.now) c.in-Some.is c.requires.over in
    is_low g.O.Order.rules c.args.pool.now _ v.stands (sorted_distinct g.O.Order.rules g.met.O.Order.lawful c.args.pool.now _ v.sorted) c.links_of-links.ensures.places

pub join-requires-clause-under : goal.join-requires-clause-under
join-requires-clause-under g t c = none_under g.O.Order.rules g.met.O.Order.lawful c.args.pool.now c.args.no.0 c.requires.node

pub returns-in_default-clause-inserts : goal.returns-in_default-clause-inserts
returns-in_default-clause-inserts g t c =
    subst (λ r. Inserts g.O.Order.rules c.args.pool.now r c.args.no.0 c.join.new.pool (Some c.args.no)) (sym c.in_default.is)
    (inserted_alone g.O.Order.rules g.met.O.Order.lawful c.join.ensures)

pub side_of-side-requires-clause-at : goal.side_of-side-requires-clause-at
side_of-side-requires-clause-at g t c =
    let v : IsOver g.O.Order.rules c.args.pool.now (Some c.in-Some.at) = subst (IsOver g.O.Order.rules c.args.pool.now) c.in-Some.is c.requires.over in
    in_use g.O.Order.rules c.args.pool.now (Some c.in-Some.at) v.stands

pub links_of-links-requires : goal.links_of-links-requires
links_of-links-requires g t c =
    let v : IsOver g.O.Order.rules c.args.pool.now (Some c.in-Some.at) = subst (IsOver g.O.Order.rules c.args.pool.now) c.in-Some.is c.requires.over in
    in_use g.O.Order.rules c.args.pool.now (Some c.in-Some.at) v.stands

pub insert_below-visits-requires : goal.insert_below-visits-requires
insert_below-visits-requires g t c =
    let d = (goal.at.insert_below-visits-requires g t c).After-toward-far in
    let o = opened g t d in
    let e : t ≡ stored_height g.O.Order.rules c.args.pool.now (Some c.in-Some.at) = omega (arith, c.decreases, ap (stored_height g.O.Order.rules c.args.pool.now) c.in-Some.is) in
    let v : IsOver g.O.Order.rules c.args.pool.now (Some c.in-Some.at) = subst (IsOver g.O.Order.rules c.args.pool.now) c.in-Some.is c.requires.over in
    λ κs within. (omega (arith, o.height, e), (within.0, (within.1, (near_over g.O.Order.rules g.met.O.Order.lawful v o, (c.requires.node, (differs g t d).near)))))

pub resettle-top-requires-clause-under : goal.resettle-top-requires-clause-under
resettle-top-requires-clause-under g t c =
    let d = (goal.at.resettle-top-requires-clause-under g t c).After-toward-far in
    let v : IsOver g.O.Order.rules c.args.pool.now (Some c.in-Some.at) = subst (IsOver g.O.Order.rules c.args.pool.now) c.in-Some.is c.requires.over in
    insert_under g.O.Order.rules g.met.O.Order.lawful v (opened g t d) (turn g t d) c.insert_below-visits.ensures.inserts

pub tell-before-requires : goal.tell-before-requires
tell-before-requires g t c =
    let d = (goal.at.tell-before-requires g t c).After-toward-far in
    in_use g.O.Order.rules c.args.pool.now c.toward-near.result (opened g t d).near_stands

pub resettle-top-requires-clause-over : goal.resettle-top-requires-clause-over
resettle-top-requires-clause-over g t c =
    let d = (goal.at.resettle-top-requires-clause-over g t c).After-toward-far in
    let v : IsOver g.O.Order.rules c.args.pool.now (Some c.in-Some.at) = subst (IsOver g.O.Order.rules c.args.pool.now) c.in-Some.is c.requires.over in
    insert_over g.O.Order.rules g.met.O.Order.lawful v (opened g t d) (turn g t d) c.insert_below-visits.ensures.inserts (cc) (cc) c.tell-before.ensures.root c.tell-before.ensures.height c.tell-before.ensures.greatest

pub resettle-top-requires-clause-differ : goal.resettle-top-requires-clause-differ
resettle-top-requires-clause-differ g t c =
    let d = (goal.at.resettle-top-requires-clause-differ g t c).After-toward-far in
    let v : IsOver g.O.Order.rules c.args.pool.now (Some c.in-Some.at) = subst (IsOver g.O.Order.rules c.args.pool.now) c.in-Some.is c.requires.over in
    let o = opened g t d in
    let b = o.balanced in
    let i = c.insert_below-visits.ensures.inserts in
    let far = insert_far g.O.Order.rules g.met.O.Order.lawful v o (turn g t d) i in
    omega (arith, b, far, i.no_lower, i.no_higher)

pub resettle-top-requires-clause-low : goal.resettle-top-requires-clause-low
resettle-top-requires-clause-low g t c =
    let d = (goal.at.resettle-top-requires-clause-low g t c).After-toward-far in
    let v : IsOver g.O.Order.rules c.args.pool.now (Some c.in-Some.at) = subst (IsOver g.O.Order.rules c.args.pool.now) c.in-Some.is c.requires.over in
    let o = opened g t d in
    let i = c.insert_below-visits.ensures.inserts in
    let far = insert_far g.O.Order.rules g.met.O.Order.lawful v o (turn g t d) i in
    omega (arith, low g t d, o.height, far, i.no_lower, i.no_higher)

pub overflow_add-result : goal.overflow_add-result
overflow_add-result g t c =
    let d = (goal.at.overflow_add-result g t c).After-toward-far in
    let o = opened g t d in
    omega (arith, low g t d, o.height, c.insert_below-visits.ensures.visits)

pub returns-clause-inserts : goal.returns-clause-inserts
returns-clause-inserts g t c =
    let d = (goal.at.returns-clause-inserts g t c).After-toward-far in
    let v : IsOver g.O.Order.rules c.args.pool.now (Some c.in-Some.at) = subst (IsOver g.O.Order.rules c.args.pool.now) c.in-Some.is c.requires.over in
    subst (λ r. Inserts g.O.Order.rules c.args.pool.now r c.args.no.0 c.resettle-top.new.pool (Some c.resettle-top.result)) (sym c.in-Some.is)
    (inserted g.O.Order.rules g.met.O.Order.lawful v (opened g t d) (turn g t d) c.insert_below-visits.ensures.inserts c.resettle-top.ensures)

pub returns-clause-visits : goal.returns-clause-visits
returns-clause-visits g t c =
    let d = (goal.at.returns-clause-visits g t c).After-toward-far in
    let o = opened g t d in
    omega (arith, o.height, c.insert_below-visits.ensures.visits, ap (stored_height g.O.Order.rules c.args.pool.now) c.in-Some.is)
