use Rattle.std.proofs.Common.{◌∙◌, ◌<◌, length, arith}
use Rattle.range_tree.proofs.Among.{blank}
use Rattle.range_tree.proofs.Seen.{seen_nodes}
use Rattle.range_tree.proofs.trees.RangeTreesSegTrees.nodes.Goals as goal

pub returns : goal.returns
returns c =
    let within : c.args.tree < length c.self.inside.trees = omega (arith, c.requires, c.self.invariant.thirteen) in
    c.nodes.ensures ∙ (c.self.invariant.each c.args.tree blank within).nodes ∙ seen_nodes c.self.invariant _ c.self.view_is c.args.tree blank within
