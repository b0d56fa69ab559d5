use Rattle.std.proofs.Common.{◌∙◌, ◌+◌, ◌*◌, ◌≤◌, inl, inr, ◌∷◌, ◌++◌, Some, length, length-append, arith, ap, sym, subst}
use Rattle.seg_order.specs.declared.links.Links.{Links}
use Rattle.zms_units.specs.Runs.{IsFirstFrom}
use Rattle.seg_order.specs.Trees.{nodes_from, greatest_of, links_of_node, IsOver}
use Rattle.seg_order.proofs.Standing.{none_empty, FewVisits-is}
use Rattle.range_tree.specs.Descents.{descent}
use Rattle.range_tree.specs.Nodes.{place_rules}
use Rattle.range_tree.specs.Kept.{seg_of, placed, units_of}
use Rattle.range_tree.specs.Sought.{PointsFrom, IsFirstLong, right_of}
use Rattle.range_tree.proofs.Descents.{one_descent, descent_mono, descent_low}
use Rattle.range_tree.proofs.Putting.{few_nodes}
use Rattle.range_tree.proofs.Joining.{listed_used}
use Rattle.range_tree.proofs.Steering.{none_sought, point_itself, point_right, point_listed}
use Rattle.range_tree.proofs.seeking.first_from.Goals as goal
use Rattle.range_tree.proofs.seeking.first_from.Goals.{After-first_long-more}

pub returns-in_default-clause-none : goal.returns-in_default-clause-none
returns-in_default-clause-none c =
    let p = subst (PointsFrom c.args.pool.now c.args.count c.args.at (placed c.args.pool.now c.args.tree.now)) c.in_default.is c.turning_point-point.ensures.point in
    none_sought c.requires p p.points

pub node-node-requires : goal.node-node-requires
node-node-requires c =
    let p = subst (PointsFrom c.args.pool.now c.args.count c.args.at (placed c.args.pool.now c.args.tree.now)) c.in-Some.is c.turning_point-point.ensures.point in
    listed_used c.requires c.in-Some.no.0 (point_listed c.requires p p.points)

pub first_long-more-requires-clause-over : goal.first_long-more-requires-clause-over
first_long-more-requires-clause-over c =
    let p = subst (PointsFrom c.args.pool.now c.args.count c.args.at (placed c.args.pool.now c.args.tree.now)) c.in-Some.is c.turning_point-point.ensures.point in
    subst (IsOver place_rules c.args.pool.now) (ap (λ (q : Links). q.right) (ap (links_of_node place_rules) c.node-node.ensures.node ∙ sym c.links-links.ensures) ∙ c.in-Some-right.is) p.points.over

pub first_long-more-requires-clause-long : goal.first_long-more-requires-clause-long
first_long-more-requires-clause-long c =
    let p = subst (PointsFrom c.args.pool.now c.args.count c.args.at (placed c.args.pool.now c.args.tree.now)) c.in-Some.is c.turning_point-point.ensures.point in
    let count = ap (λ o. (seg_of o).count) c.node-node.ensures.node in
    elim p.points.long [
      | inl own ↦ absurd (omega (arith, own, count, c.if-node-count.false))
      | inr right ↦ omega (arith, right, ap (λ q. greatest_of place_rules c.args.pool.now (nodes_from place_rules c.args.pool.now q)) (ap (λ (q : Links). q.right) (ap (links_of_node place_rules) c.node-node.ensures.node ∙ sym c.links-links.ensures) ∙ c.in-Some-right.is))
    ]

pub returns-then-node-count-clause-first : goal.returns-then-node-count-clause-first
returns-then-node-count-clause-first c =
    let p = subst (PointsFrom c.args.pool.now c.args.count c.args.at (placed c.args.pool.now c.args.tree.now)) c.in-Some.is c.turning_point-point.ensures.point in
    subst (IsFirstFrom (units_of c.args.pool.now c.args.tree.now) 131072 c.args.count c.args.at) (ap seg_of c.node-node.ensures.node)
    (point_itself c.requires p p.points (omega (arith, ap (λ o. (seg_of o).count) c.node-node.ensures.node, c.if-node-count.true)))

pub unreachable-requires : goal.unreachable-requires
unreachable-requires c =
    let p = subst (PointsFrom c.args.pool.now c.args.count c.args.at (placed c.args.pool.now c.args.tree.now)) c.in-Some.is c.turning_point-point.ensures.point in
    let count = ap (λ o. (seg_of o).count) c.node-node.ensures.node in
    let none = ap (λ q. greatest_of place_rules c.args.pool.now (nodes_from place_rules c.args.pool.now q)) (ap (λ (q : Links). q.right) (ap (links_of_node place_rules) c.node-node.ensures.node ∙ sym c.links-links.ensures) ∙ c.in_default-right.is) in
    let zero_there = ap (greatest_of place_rules c.args.pool.now) (none_empty place_rules c.args.pool.now) in
    elim p.points.long [
      | inl own ↦ omega (arith, own, count, c.if-node-count.false)
      | inr right ↦ omega (arith, right, none, zero_there, c.if-node-count.false)
    ]

visits : (c : After-first_long-more) → c.turning_point-point.result.1 + c.first_long-more.result.1 ≤ 2 * descent (length (placed c.args.pool.now c.args.tree.now))
visits c =
    let p = subst (PointsFrom c.args.pool.now c.args.count c.args.at (placed c.args.pool.now c.args.tree.now)) c.in-Some.is c.turning_point-point.ensures.point in
    let q = p.points in
    let right_is = ap (λ (q : Links). q.right) (ap (links_of_node place_rules) c.node-node.ensures.node ∙ sym c.links-links.ensures) ∙ c.in-Some-right.is in
    let over : IsOver place_rules c.args.pool.now (Some c.in-Some-right.right) = subst (IsOver place_rules c.args.pool.now) right_is q.over in
    let few = one_descent _ _ (FewVisits-is place_rules c.args.pool.now c.first_long-more.result.1 (Some c.in-Some-right.right) over.stands c.first_long-more.ensures.visits) in
    let one = ap length p.split ∙ length-append p.before p.behind in
    let two = ap length q.split ∙ length-append q.front (c.in-Some.no.0 ∷ (right_of c.args.pool.now c.in-Some.no.0 ++ q.back)) in
    let three = length-append (right_of c.args.pool.now c.in-Some.no.0) q.back in
    let four = ap (λ r. length (nodes_from place_rules c.args.pool.now r)) right_is in
    omega (arith, few, c.turning_point-point.ensures.visits, descent_mono (length (nodes_from place_rules c.args.pool.now (Some c.in-Some-right.right))) (length (placed c.args.pool.now c.args.tree.now)) (omega (arith, one, two, three, four)))

pub overflow_add-result : goal.overflow_add-result
overflow_add-result c = omega (arith, visits (goal.at.overflow_add-result c).After-first_long-more, descent_low (length (placed c.args.pool.now c.args.tree.now)), few_nodes c.requires)

pub returns-clause-visits : goal.returns-clause-visits
returns-clause-visits c = visits (goal.at.returns-clause-visits c).After-first_long-more

pub returns-clause-first : goal.returns-clause-first
returns-clause-first c =
    let p = subst (PointsFrom c.args.pool.now c.args.count c.args.at (placed c.args.pool.now c.args.tree.now)) c.in-Some.is c.turning_point-point.ensures.point in
    let right_is = ap (λ (q : Links). q.right) (ap (links_of_node place_rules) c.node-node.ensures.node ∙ sym c.links-links.ensures) ∙ c.in-Some-right.is in
    point_right c.requires p p.points c.first_long-more.result.0 (omega (arith, ap (λ o. (seg_of o).count) c.node-node.ensures.node, c.if-node-count.false))
    (subst (λ r. IsFirstLong c.args.pool.now c.args.count (nodes_from place_rules c.args.pool.now r) c.first_long-more.result.0) (sym right_is) c.first_long-more.ensures.first)
