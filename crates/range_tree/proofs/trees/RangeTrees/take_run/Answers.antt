use Rattle.std.proofs.Common.{◌∙◌, ◌<◌, length, get_or, arith, sym}
use Rattle.range_tree.proofs.Among.{blank, trees_after}
use Rattle.range_tree.proofs.Empty.{no_units}
use Rattle.range_tree.proofs.Seen.{seen_units, seen_nodes, loses}
use Rattle.range_tree.proofs.trees.RangeTrees.take_run.Goals as goal

pub returns-then-nodes-eq0-clause-none : goal.returns-then-nodes-eq0-clause-none
returns-then-nodes-eq0-clause-none c u =
    let within : c.args.tree < length c.self.inside.trees = omega (arith, c.requires, c.self.invariant.thirteen) in
    sym (seen_units c.self.invariant _ c.self.view_is c.args.tree blank within u)
    ∙ no_units c.self.inside.pool (get_or c.self.inside.trees c.args.tree blank) u (seen_nodes c.self.invariant _ c.self.view_is c.args.tree blank within ∙ sym c.nodes.ensures ∙ c.if-nodes-eq0.true)

pub take_top-requires-clause-some : goal.take_top-requires-clause-some
take_top-requires-clause-some c = omega (arith, seen_nodes c.self.invariant _ c.self.view_is c.args.tree blank (omega (arith, c.requires, c.self.invariant.thirteen)), c.nodes.ensures)

pub invariant_of-self : goal.invariant_of-self
invariant_of-self c = trees_after c.self.invariant c.args.tree c.take_top.new.self blank (omega (arith, c.requires, c.self.invariant.thirteen)) c.take_top.ensures.tree c.take_top.ensures.touches

pub returns-clause-some : goal.returns-clause-some
returns-clause-some c =
    loses c.self.invariant _ c.self.view_is c.args.tree c.take_top.new.self blank (omega (arith, c.requires, c.self.invariant.thirteen)) c.take_top.ensures.tree c.take_top.ensures.touches
    c.take_top.result c.take_top.ensures.segment c.take_top.ensures.held c.take_top.ensures.units c.take_top.ensures.nodes
