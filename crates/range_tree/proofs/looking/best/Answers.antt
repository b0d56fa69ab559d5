use Rattle.std.proofs.Common.{IsSome, arith, ap, subst}
use Rattle.zms_units.specs.Runs.{IsBest}
use Rattle.seg_pool.specs.Pool.{node_at}
use Rattle.seg_order.specs.Looks.{IsFirstFrom}
use Rattle.seg_order.proofs.Apart.{Each-in}
use Rattle.seg_order.proofs.Heights.{all_used}
use Rattle.range_tree.specs.Nodes.{place_rules, size_rules}
use Rattle.range_tree.specs.Kept.{seg_of, placed, sized, units_of}
use Rattle.range_tree.specs.Descents.{descent}
use Rattle.range_tree.proofs.Descents.{one_descent}
use Rattle.range_tree.proofs.Choosing.{best_none, best_some, listed}
use Rattle.range_tree.proofs.looking.best.Goals as goal

pub node-requires : goal.node-requires
node-requires c =
    let f = subst (IsFirstFrom size_rules c.args.pool.now c.new-key.result (sized c.args.pool.now c.args.tree.now)) c.in-Some.is c.first_at_or_after-found.ensures.first in
    Each-in (λ q. IsSome (node_at c.args.pool.now q)) (placed c.args.pool.now c.args.tree.now) c.in-Some.no.0 (all_used place_rules c.args.pool.now c.args.tree.now.places.root c.requires.places.stands)
    (listed c.requires c.new-key.result c.args.count c.new-key.ensures c.in-Some.no f)

pub returns-in-Some-clause-best : goal.returns-in-Some-clause-best
returns-in-Some-clause-best c =
    let f = subst (IsFirstFrom size_rules c.args.pool.now c.new-key.result (sized c.args.pool.now c.args.tree.now)) c.in-Some.is c.first_at_or_after-found.ensures.first in
    subst (IsBest (units_of c.args.pool.now c.args.tree.now) 131072 c.args.count) (ap seg_of c.node.ensures.node)
    (best_some c.requires c.new-key.result c.args.count c.new-key.ensures c.in-Some.no f)

pub returns-in-Some-clause-visits : goal.returns-in-Some-clause-visits
returns-in-Some-clause-visits c = omega (arith, one_descent _ _ c.first_at_or_after-found.ensures.visits, ap descent c.requires.as_many)

pub returns-in-None-clause-none : goal.returns-in-None-clause-none
returns-in-None-clause-none c =
    best_none c.requires c.new-key.result c.args.count c.new-key.ensures
    (subst (IsFirstFrom size_rules c.args.pool.now c.new-key.result (sized c.args.pool.now c.args.tree.now)) c.in-None.is c.first_at_or_after-found.ensures.first)

pub returns-in-None-clause-visits : goal.returns-in-None-clause-visits
returns-in-None-clause-visits c = omega (arith, one_descent _ _ c.first_at_or_after-found.ensures.visits, ap descent c.requires.as_many)
