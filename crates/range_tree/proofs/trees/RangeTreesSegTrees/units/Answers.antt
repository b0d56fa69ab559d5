use Rattle.std.proofs.Common.{◌∙◌, arith}
use Rattle.range_tree.proofs.Seen.{seen_size}
use Rattle.range_tree.proofs.trees.RangeTreesSegTrees.units.Goals as goal

pub returns : goal.returns
returns c = c.units.ensures ∙ seen_size c.self.invariant _ c.self.view_is c.args.tree _ (omega (arith, c.requires, c.self.invariant.thirteen))
