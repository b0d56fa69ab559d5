use Rattle.std.proofs.Common.{◌∙◌, Some, ap, sym, subst}
use Rattle.seg_order.specs.Trees.{StandsFrom, links_of_node, stored_greatest}
use Rattle.seg_order.proofs.Standing.{in_use}
use Rattle.range_tree.specs.Nodes.{place_rules}
use Rattle.range_tree.proofs.Choosing.{largest_is}
use Rattle.range_tree.proofs.looking.largest.Goals as goal

pub node-requires : goal.node-requires
node-requires c = in_use place_rules c.args.pool.now (Some c.in-Some.top) (subst (StandsFrom place_rules c.args.pool.now) (sym c.root.ensures ∙ c.in-Some.is) c.requires.places.stands)

pub returns-in-Some : goal.returns-in-Some
returns-in-Some c =
    largest_is c.requires _ (sym (ap (λ o. (links_of_node place_rules o).greatest) c.node.ensures.node) ∙ ap (stored_greatest place_rules c.args.pool.now) (sym c.in-Some.is ∙ c.root.ensures))

pub returns-in-None : goal.returns-in-None
returns-in-None c = largest_is c.requires _ (ap (stored_greatest place_rules c.args.pool.now) (sym c.in-None.is ∙ c.root.ensures))
