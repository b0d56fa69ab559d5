use Rattle.std.proofs.Common.{◌≤◌, ◌<◌, length, arith, subst}
use Rattle.range_tree.specs.Descents.{descent}
use Rattle.range_tree.proofs.Among.{blank}
use Rattle.range_tree.proofs.Seen.{seen_nodes, rises}
use Rattle.range_tree.proofs.trees.RangeTreesSegTrees.meets.Goals as goal

pub returns-clause-steps : goal.returns-clause-steps
returns-clause-steps g c =
    let within : c.args.tree < length c.self.inside.trees = omega (arith, c.requires.tree, c.self.invariant.thirteen) in
    rises _ _ _ _ c.count.ensures (subst (λ n. c.lowest-found.result.1 ≤ descent n) (seen_nodes c.self.invariant _ c.self.view_is c.args.tree blank within) c.lowest-found.ensures.visits)
