use Rattle.std.proofs.Common.{◌∙◌, Some, ap, sym, subst}
use Rattle.seg_order.specs.Trees.{links_of_node, stored_greatest}
use Rattle.seg_order.proofs.Standing.{in_use, greatest_from}
use Rattle.range_tree.specs.Nodes.{place_rules}
use Rattle.seg_order.specs.Trees.{IsOver}
use Rattle.range_tree.proofs.seeking.longest.Goals as goal

pub node-requires : goal.node-requires
node-requires c =
    let v : IsOver place_rules c.args.pool.now (Some c.in-Some.top) = subst (IsOver place_rules c.args.pool.now) c.in-Some.is c.requires in
    in_use place_rules c.args.pool.now (Some c.in-Some.top) v.stands

pub returns-in-Some : goal.returns-in-Some
returns-in-Some c =
    sym (ap (λ o. (links_of_node place_rules o).greatest) c.node.ensures.node) ∙ ap (stored_greatest place_rules c.args.pool.now) (sym c.in-Some.is) ∙ greatest_from place_rules c.args.pool.now c.args.root c.requires.stands

pub returns-in-None : goal.returns-in-None
returns-in-None c = ap (stored_greatest place_rules c.args.pool.now) (sym c.in-None.is) ∙ greatest_from place_rules c.args.pool.now c.args.root c.requires.stands
