use Rattle.std.proofs.Common.{◌∙◌, ap, arith}
use Rattle.seg_trees.specs.Sets.{all_nodes}
use Rattle.seg_trees.specs.Kept.{TreeLists, sets_of}
use Rattle.range_tree.proofs.Among.{all_used_by, trees_kept, views_kept}
use Rattle.range_tree.proofs.trees.RangeTreesSegTrees.reserve.Goals as goal

pub reserve-requires : goal.reserve-requires
reserve-requires c = omega (arith, all_used_by c.self.invariant, ap (λ (v : TreeLists). all_nodes (sets_of v.lists)) c.self.view_is, c.requires)

pub invariant_of-self : goal.invariant_of-self
invariant_of-self c = trees_kept c.self.invariant c.reserve.ensures.nodes

pub returns-clause-stay : goal.returns-clause-stay
returns-clause-stay c tree u =
    ap (λ ls. sets_of ls tree u) (views_kept c.self.invariant c.reserve.ensures.nodes) ∙ ap (λ (v : TreeLists). sets_of v.lists tree u) c.self.view_is
