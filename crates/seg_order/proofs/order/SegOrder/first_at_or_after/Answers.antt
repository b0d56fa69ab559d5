use Rattle.std.proofs.Common.{◌≡◌, ◌∙◌, ℕ, Bool, true, false, Some, arith, ap, sym, subst}
use Rattle.seg_pool.specs.Pool.{node_at}
use Rattle.seg_order.specs.declared.links.Links.{Links}
use Rattle.seg_order.specs.declared.links.Side.TheVariants.{Left}
use Rattle.seg_order.specs.Sides.{comes_before}
use Rattle.seg_order.specs.Trees.{stored_height, IsOver}
use Rattle.seg_order.proofs.Standing.{Opened, opens, in_use, FewVisits-is}
use Rattle.seg_order.proofs.Sorting.{sorted_distinct}
use Rattle.seg_order.proofs.Heights.{is_low}
use Rattle.seg_order.proofs.Looking.{Descends, ends, goes_left, goes_right, near_fails, before_key}
use Rattle.seg_order.proofs.order.SegOrder.first_at_or_after.Given.{Over}
use Rattle.seg_order.proofs.order.SegOrder.first_at_or_after.Goals as goal
use Rattle.seg_order.proofs.order.SegOrder.first_at_or_after.Goals.{After-links_of-links}

down : (g : Over) (c : After-links_of-links g) → Descends g.O.Order.rules c.args.pool.now (λ (one : ℕ). comes_before g.O.Order.rules (node_at c.args.pool.now one) (Some c.args.key.now)) c.args.self.now.root (Some c.in-Some.at) c.loop-below.found c.loop-below.visits
down g c = subst (λ q. Descends g.O.Order.rules c.args.pool.now (λ (one : ℕ). comes_before g.O.Order.rules (node_at c.args.pool.now one) (Some c.args.key.now)) c.args.self.now.root q c.loop-below.found c.loop-below.visits) c.in-Some.is c.loop-below.invariant

opened : (g : Over) (c : After-links_of-links g) → Opened g.O.Order.rules c.args.pool.now Left c.in-Some.at c.links_of-links.result.left c.links_of-links.result.right
opened g c =
    opens g.O.Order.rules c.args.pool.now Left c.in-Some.at _ _ (down g c).over.stands
    (ap (λ (q : Links). q.left) c.links_of-links.ensures.links) (ap (λ (q : Links). q.right) c.links_of-links.ensures.links)

pub links_of-links-requires : goal.links_of-links-requires
links_of-links-requires g c =
    let v : IsOver g.O.Order.rules c.args.pool.now (Some c.in-Some.at) = subst (IsOver g.O.Order.rules c.args.pool.now) c.in-Some.is c.loop-below.invariant.over in
    in_use g.O.Order.rules c.args.pool.now (Some c.in-Some.at) v.stands

pub node-requires : goal.node-requires
node-requires g c =
    let v : IsOver g.O.Order.rules c.args.pool.now (Some c.in-Some.at) = subst (IsOver g.O.Order.rules c.args.pool.now) c.in-Some.is c.loop-below.invariant.over in
    in_use g.O.Order.rules c.args.pool.now (Some c.in-Some.at) v.stands

pub overflow_add-visits : goal.overflow_add-visits
overflow_add-visits g c =
    let a = (goal.at.overflow_add-visits g c).After-links_of-links in
    let low = is_low g.O.Order.rules c.args.pool.now c.args.self.now.root c.requires.stands (sorted_distinct g.O.Order.rules g.met.O.Order.lawful c.args.pool.now _ c.requires.sorted) c.links_of-links.ensures.places in
    omega (arith, low, (down g a).counted)

pub loop-below-smaller-then-before : goal.loop-below-smaller-then-before
loop-below-smaller-then-before g c =
    let a = (goal.at.loop-below-smaller-then-before g c).After-links_of-links in
    let o = opened g a in
    omega (arith, o.height, ap (stored_height g.O.Order.rules c.args.pool.now) c.in-Some.is)

pub loop-below-smaller : goal.loop-below-smaller
loop-below-smaller g c =
    let a = (goal.at.loop-below-smaller g c).After-links_of-links in
    let o = opened g a in
    omega (arith, o.height, ap (stored_height g.O.Order.rules c.args.pool.now) c.in-Some.is)

pub loop-below-preserved-then-before : goal.loop-below-preserved-then-before
loop-below-preserved-then-before g c =
    let a = (goal.at.loop-below-preserved-then-before g c).After-links_of-links in
    let fails : ℕ → Bool = λ one. comes_before g.O.Order.rules (node_at c.args.pool.now one) (Some c.args.key.now) in
    let here : comes_before g.O.Order.rules (node_at c.args.pool.now c.in-Some.at.0) (Some c.args.key.now) ≡ true = ap (λ o. comes_before g.O.Order.rules o (Some c.args.key.now)) c.node.ensures.node ∙ sym c.before-in-Some.ensures ∙ c.if-before.true in
    goes_right g.O.Order.rules c.args.pool.now fails g.met.O.Order.lawful (down g a) (opened g a) here
    (near_fails g.O.Order.rules c.args.pool.now fails g.met.O.Order.lawful (down g a) (opened g a) (λ j before. before_key g.O.Order.rules g.met.O.Order.lawful _ _ c.args.key.now before here))

pub loop-below-preserved : goal.loop-below-preserved
loop-below-preserved g c =
    let a = (goal.at.loop-below-preserved g c).After-links_of-links in
    let here : comes_before g.O.Order.rules (node_at c.args.pool.now c.in-Some.at.0) (Some c.args.key.now) ≡ false = ap (λ o. comes_before g.O.Order.rules o (Some c.args.key.now)) c.node.ensures.node ∙ sym c.before-in-Some.ensures ∙ c.if-before.false in
    goes_left g.O.Order.rules c.args.pool.now (λ (one : ℕ). comes_before g.O.Order.rules (node_at c.args.pool.now one) (Some c.args.key.now)) g.met.O.Order.lawful (down g a) (opened g a) here

pub returns-clause-first : goal.returns-clause-first
returns-clause-first g c = ends g.O.Order.rules c.args.pool.now (λ (one : ℕ). comes_before g.O.Order.rules (node_at c.args.pool.now one) (Some c.args.key.now)) c.loop-below.invariant c.in_default.is

pub returns-clause-visits : goal.returns-clause-visits
returns-clause-visits g c =
    FewVisits-is g.O.Order.rules c.args.pool.now c.loop-below.visits c.args.self.now.root c.requires.stands (omega (arith, c.loop-below.invariant.counted))
