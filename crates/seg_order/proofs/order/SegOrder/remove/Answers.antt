use Rattle.std.proofs.Common.{◌∙◌, Some, ap, sym, subst, Contains}
use Rattle.seg_order.specs.Trees.{IsOver, nodes_from, FewVisits}
use Rattle.std.proofs.Common.{length}
use Rattle.seg_order.proofs.Standing.{FewVisits-is, none_empty}
use Rattle.seg_order.proofs.Changing.{still_sorted}
use Rattle.seg_order.proofs.Sorting.{none_contained, sorted_rest}
use Rattle.seg_order.proofs.order.SegOrder.remove.Goals as goal

pub unreachable-requires : goal.unreachable-requires
unreachable-requires g c =
    none_contained c.args.no.0 (subst (λ q. Contains q c.args.no.0) (ap (nodes_from g.O.Order.rules c.args.pool.now) c.in_default.is ∙ none_empty g.O.Order.rules c.args.pool.now) c.requires.listed)

pub returns-clause-over : goal.returns-clause-over
returns-clause-over g c =
    let r = c.remove_below-rest.ensures.removes in
    let v : IsOver g.O.Order.rules c.args.pool.now (Some c.in-Some.top) = subst (IsOver g.O.Order.rules c.args.pool.now) c.in-Some.is c.requires.over in
    record {
      stands = r.stands;
      sorted = still_sorted g.O.Order.rules g.met.O.Order.lawful r.links _ (sorted_rest g.O.Order.rules g.met.O.Order.lawful c.args.pool.now r.put v.sorted);
    }

pub returns-clause-visits : goal.returns-clause-visits
returns-clause-visits g c =
    let v : IsOver g.O.Order.rules c.args.pool.now (Some c.in-Some.top) = subst (IsOver g.O.Order.rules c.args.pool.now) c.in-Some.is c.requires.over in
    subst (λ q. FewVisits c.remove_below-rest.result.1 (length (nodes_from g.O.Order.rules c.args.pool.now q))) (sym c.in-Some.is)
    (FewVisits-is g.O.Order.rules c.args.pool.now c.remove_below-rest.result.1 (Some c.in-Some.top) v.stands c.remove_below-rest.ensures.visits)
