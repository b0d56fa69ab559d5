use Rattle.std.proofs.Common.{◌≤◌, Some, arith, ap, sym, subst, ◌∙◌}
use Rattle.seg_order.specs.declared.links.Links.{Links}
use Rattle.seg_order.specs.declared.links.Side.TheVariants.{Left}
use Rattle.seg_order.specs.Trees.{nodes_from, stored_height, greatest_of, links_of_node}
use Rattle.seg_order.proofs.Standing.{Opened, opens, in_use}
use Rattle.seg_order.proofs.Sorting.{sorted_distinct}
use Rattle.seg_order.proofs.Heights.{is_low}
use Rattle.seg_order.proofs.Moving.{near_over}
use Rattle.range_tree.specs.Nodes.{place_rules, place_lawful}
use Rattle.range_tree.specs.Kept.{seg_of}
use Rattle.range_tree.specs.Sought.{IsFirstLong}
use Rattle.range_tree.proofs.Steering.{steer_starts, steer_left, steer_here, steer_right, steer_left_none, steer_right_none}
use Rattle.range_tree.proofs.seeking.first_long.Goals as goal
use Rattle.range_tree.proofs.seeking.first_long.Goals.{After-links-links}

opened : (c : After-links-links) → Opened place_rules c.args.pool.now Left c.down.no c.links-links.result.left c.links-links.result.right
opened c =
    opens place_rules c.args.pool.now Left c.down.no _ _ c.down.invariant.over.stands
    (ap (λ (q : Links). q.left) (c.links-links.ensures ∙ sym (ap (links_of_node place_rules) c.node-node.ensures.node))) (ap (λ (q : Links). q.right) (c.links-links.ensures ∙ sym (ap (links_of_node place_rules) c.node-node.ensures.node)))

low : (c : After-links-links) → stored_height place_rules c.args.pool.now (Some c.args.root) ≤ 51
low c = is_low place_rules c.args.pool.now (Some c.args.root) c.requires.over.stands (sorted_distinct place_rules place_lawful c.args.pool.now _ c.requires.over.sorted) c.node-node.ensures.places

pub down-init : goal.down-init
down-init c = steer_starts c.args.pool.now c.args.count c.args.root c.requires.over c.requires.long

pub node-node-requires : goal.node-node-requires
node-node-requires c = in_use place_rules c.args.pool.now (Some c.down.no) c.down.invariant.over.stands

pub longest-requires : goal.longest-requires
longest-requires c = near_over place_rules place_lawful c.down.invariant.over (opened (goal.at.longest-requires c).After-links-links)

pub unreachable-requires : goal.unreachable-requires
unreachable-requires c = steer_left_none c.args.pool.now c.down.invariant c.in_default.is (omega (arith, c.longest.ensures, c.if-longest-count.true)) c.requires.some

pub overflow_add-visits : goal.overflow_add-visits
overflow_add-visits c = omega (arith, low (goal.at.overflow_add-visits c).After-links-links, c.down.invariant.counted)

pub down-smaller-then-longest-count : goal.down-smaller-then-longest-count
down-smaller-then-longest-count c =
    let o = opened (goal.at.down-smaller-then-longest-count c).After-links-links in
    omega (arith, o.height, ap (stored_height place_rules c.args.pool.now) c.in-Some.is)

pub down-preserved-then-longest-count : goal.down-preserved-then-longest-count
down-preserved-then-longest-count c =
    let o = subst (λ q. Opened place_rules c.args.pool.now Left c.down.no q c.links-links.result.right) c.in-Some.is (opened (goal.at.down-preserved-then-longest-count c).After-links-links) in
    steer_left c.args.pool.now c.down.invariant o (omega (arith, c.longest.ensures, c.if-longest-count.true, ap (λ q. greatest_of place_rules c.args.pool.now (nodes_from place_rules c.args.pool.now q)) c.in-Some.is))

pub returns-then-node-count-clause-first : goal.returns-then-node-count-clause-first
returns-then-node-count-clause-first c =
    subst (IsFirstLong c.args.pool.now c.args.count _) (ap seg_of c.node-node.ensures.node)
    (steer_here c.args.pool.now c.down.invariant (opened (goal.at.returns-then-node-count-clause-first c).After-links-links) (omega (arith, c.longest.ensures, c.if-longest-count.false)) (omega (arith, c.if-node-count.true, ap (λ o. (seg_of o).count) c.node-node.ensures.node)))

pub returns-then-node-count-clause-visits : goal.returns-then-node-count-clause-visits
returns-then-node-count-clause-visits c =
    let o = opened (goal.at.returns-then-node-count-clause-visits c).After-links-links in
    omega (arith, c.down.invariant.counted, o.height)

pub unreachable-requires-in_default-right : goal.unreachable-requires-in_default-right
unreachable-requires-in_default-right c =
    steer_right_none c.args.pool.now c.down.invariant (opened (goal.at.unreachable-requires-in_default-right c).After-links-links) c.in_default-right.is (omega (arith, c.longest.ensures, c.if-longest-count.false)) (omega (arith, c.if-node-count.false, ap (λ o. (seg_of o).count) c.node-node.ensures.node))

pub overflow_add-visits-in-down : goal.overflow_add-visits-in-down
overflow_add-visits-in-down c = omega (arith, low (goal.at.overflow_add-visits-in-down c).After-links-links, c.down.invariant.counted)

pub down-smaller : goal.down-smaller
down-smaller c =
    let o = opened (goal.at.down-smaller c).After-links-links in
    omega (arith, o.height, ap (stored_height place_rules c.args.pool.now) c.in-Some-right.is)

pub down-preserved : goal.down-preserved
down-preserved c =
    let o = subst (λ q. Opened place_rules c.args.pool.now Left c.down.no c.links-links.result.left q) c.in-Some-right.is (opened (goal.at.down-preserved c).After-links-links) in
    steer_right c.args.pool.now c.down.invariant o (omega (arith, c.longest.ensures, c.if-longest-count.false)) (omega (arith, c.if-node-count.false, ap (λ o. (seg_of o).count) c.node-node.ensures.node))
