use Rattle.std.proofs.Common.{◌<◌, length, arith, subst}
use Rattle.zms_units.specs.Weights.{IsHistogramOf}
use Rattle.seg_trees.specs.Kept.{TreeLists, sets_of}
use Rattle.range_tree.proofs.Among.{blank, histogram_at}
use Rattle.range_tree.proofs.trees.RangeTreesSegTrees.histogram.Goals as goal

pub returns : goal.returns
returns c =
    let within : c.args.tree < length c.self.inside.trees = omega (arith, c.requires.tree, c.self.invariant.thirteen) in
    subst (λ (s : TreeLists). IsHistogramOf (sets_of s.lists c.args.tree) 131072 c.args.ashift c.histogram.result) c.self.view_is
    (histogram_at c.self.invariant c.args.tree blank within c.args.ashift c.histogram.result (c.histogram.ensures c.self.inside.pool (c.self.invariant.each c.args.tree blank within)))
