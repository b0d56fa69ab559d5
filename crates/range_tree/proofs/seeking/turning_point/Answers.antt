use Rattle.std.proofs.Common.{◌+◌, inl, inr, Some, None, arith, ap, sym, subst, ◌∙◌}
use Rattle.seg_order.specs.declared.links.Links.{Links}
use Rattle.seg_order.specs.declared.links.Side.TheVariants.{Left}
use Rattle.seg_order.specs.Trees.{stored_height, links_of_node, IsOver}
use Rattle.seg_order.proofs.Standing.{Opened, opens, in_use, FewVisits-is}
use Rattle.seg_order.proofs.Sorting.{sorted_distinct}
use Rattle.seg_order.proofs.Heights.{is_low}
use Rattle.seg_order.proofs.Moving.{far_over}
use Rattle.range_tree.specs.Nodes.{place_rules, place_lawful}
use Rattle.range_tree.specs.Kept.{seg_of}
use Rattle.range_tree.proofs.Descents.{one_descent}
use Rattle.range_tree.proofs.Steering.{Walks, walk_starts, walk_ends, walk_right, walk_left, walk_left_here}
use Rattle.range_tree.proofs.seeking.turning_point.Goals as goal
use Rattle.range_tree.proofs.seeking.turning_point.Goals.{After-links-links}

walks : (c : After-links-links) → Walks c.requires c.args.count c.args.at (Some c.in-Some.no) c.loop-below.point c.loop-below.visits
walks c = subst (λ q. Walks c.requires c.args.count c.args.at q c.loop-below.point c.loop-below.visits) c.in-Some.is (c.loop-below.invariant c.requires)

opened : (c : After-links-links) → Opened place_rules c.args.pool.now Left c.in-Some.no c.links-links.result.left c.links-links.result.right
opened c =
    opens place_rules c.args.pool.now Left c.in-Some.no _ _ (walks c).over.stands
    (ap (λ (q : Links). q.left) (c.links-links.ensures ∙ sym (ap (links_of_node place_rules) c.node-node.ensures.node))) (ap (λ (q : Links). q.right) (c.links-links.ensures ∙ sym (ap (links_of_node place_rules) c.node-node.ensures.node)))

pub loop-below-init : goal.loop-below-init
loop-below-init c t = subst (λ q. Walks t c.args.count c.args.at q None 0) (sym c.root-below.ensures) (walk_starts t c.args.count c.args.at)

pub node-node-requires : goal.node-node-requires
node-node-requires c =
    let v : IsOver place_rules c.args.pool.now (Some c.in-Some.no) = subst (IsOver place_rules c.args.pool.now) c.in-Some.is (c.loop-below.invariant c.requires).over in
    in_use place_rules c.args.pool.now (Some c.in-Some.no) v.stands

pub overflow_add-visits : goal.overflow_add-visits
overflow_add-visits c =
    let low = is_low place_rules c.args.pool.now c.args.tree.now.places.root c.requires.places.stands (sorted_distinct place_rules place_lawful c.args.pool.now _ c.requires.places.sorted) c.node-node.ensures.places in
    omega (arith, low, (walks (goal.at.overflow_add-visits c).After-links-links).counted)

pub loop-below-smaller-then-node-at : goal.loop-below-smaller-then-node-at
loop-below-smaller-then-node-at c =
    let o = opened (goal.at.loop-below-smaller-then-node-at c).After-links-links in
    omega (arith, o.height, ap (stored_height place_rules c.args.pool.now) c.in-Some.is)

pub loop-below-preserved-then-node-at : goal.loop-below-preserved-then-node-at
loop-below-preserved-then-node-at c t =
    let d = (goal.at.loop-below-preserved-then-node-at c).After-links-links in
    let w = subst (λ q. Walks t c.args.count c.args.at q c.loop-below.point c.loop-below.visits) c.in-Some.is (c.loop-below.invariant t) in
    walk_right t w (opened d) (omega (arith, ap (λ o. (seg_of o).start) c.node-node.ensures.node, c.if-node-at.true))

pub is_point-requires : goal.is_point-requires
is_point-requires c =
    let d = (goal.at.is_point-requires c).After-links-links in
    far_over place_rules place_lawful (walks d).over (opened d)

pub loop-below-smaller-then-is_point : goal.loop-below-smaller-then-is_point
loop-below-smaller-then-is_point c =
    let o = opened (goal.at.loop-below-smaller-then-is_point c).After-links-links in
    omega (arith, o.height, ap (stored_height place_rules c.args.pool.now) c.in-Some.is)

pub loop-below-preserved-then-is_point : goal.loop-below-preserved-then-is_point
loop-below-preserved-then-is_point c t =
    let d = (goal.at.loop-below-preserved-then-is_point c).After-links-links in
    let w = subst (λ q. Walks t c.args.count c.args.at q c.loop-below.point c.loop-below.visits) c.in-Some.is (c.loop-below.invariant t) in
    let start = ap (λ o. (seg_of o).start) c.node-node.ensures.node in
    let count = ap (λ o. (seg_of o).count) c.node-node.ensures.node in
    walk_left_here t w (opened d) (ap (λ (q : Links). q.right) (c.links-links.ensures ∙ sym (ap (links_of_node place_rules) c.node-node.ensures.node))) (omega (arith, start, c.if-node-at.false))
    (elim (c.is_point.ensures.long c.if-is_point.true) [ inl own ↦ inl (omega (arith, own, count)) | inr right ↦ inr right ])

pub loop-below-smaller : goal.loop-below-smaller
loop-below-smaller c =
    let o = opened (goal.at.loop-below-smaller c).After-links-links in
    omega (arith, o.height, ap (stored_height place_rules c.args.pool.now) c.in-Some.is)

pub loop-below-preserved : goal.loop-below-preserved
loop-below-preserved c t =
    let d = (goal.at.loop-below-preserved c).After-links-links in
    let w = subst (λ q. Walks t c.args.count c.args.at q c.loop-below.point c.loop-below.visits) c.in-Some.is (c.loop-below.invariant t) in
    let start = ap (λ o. (seg_of o).start) c.node-node.ensures.node in
    let count = ap (λ o. (seg_of o).count) c.node-node.ensures.node in
    let short = c.is_point.ensures.short c.if-is_point.false in
    walk_left t w (opened d) (omega (arith, start, c.if-node-at.false)) (omega (arith, short.0, count)) short.1

pub returns-clause-point : goal.returns-clause-point
returns-clause-point c = walk_ends c.requires (c.loop-below.invariant c.requires) c.in_default.is

pub returns-clause-visits : goal.returns-clause-visits
returns-clause-visits c =
    one_descent _ _ (FewVisits-is place_rules c.args.pool.now c.loop-below.visits c.args.tree.now.places.root c.requires.places.stands (omega (arith, (c.loop-below.invariant c.requires).counted)))
