use Rattle.std.proofs.Common.{◌≤◌, ◌<◌, ◌∙◌, length, arith, sym, subst}
use Rattle.std.specs.Prelude.{IsTrue}
use Rattle.seg_trees.specs.Sets.{HoldsAll}
use Rattle.seg_trees.specs.Kept.{TreeLists, sets_of}
use Rattle.range_tree.specs.Descents.{descent}
use Rattle.range_tree.proofs.Among.{blank, found_tells}
use Rattle.range_tree.proofs.Seen.{seen_nodes, rises}
use Rattle.range_tree.proofs.trees.RangeTreesSegTrees.covers.Goals as goal

pub returns-clause-covers : goal.returns-clause-covers
returns-clause-covers g c =
    let within : c.args.tree < length c.self.inside.trees = omega (arith, c.requires.tree, c.self.invariant.thirteen) in
    let t = found_tells c.self.invariant c.args.tree within c.args.seg c.holder-found.result.0 c.holder-found.ensures.some c.holder-found.ensures.none in
    let P : TreeLists → Type 0 = λ s. (IsTrue c.is_some.result → HoldsAll (sets_of s.lists c.args.tree) c.args.seg) × (HoldsAll (sets_of s.lists c.args.tree) c.args.seg → IsTrue c.is_some.result) in
    subst P c.self.view_is (λ h. t.0 (sym c.is_some.ensures ∙ h), λ h. c.is_some.ensures ∙ t.1 h)

pub returns-clause-steps : goal.returns-clause-steps
returns-clause-steps g c =
    let within : c.args.tree < length c.self.inside.trees = omega (arith, c.requires.tree, c.self.invariant.thirteen) in
    rises _ _ _ _ c.count.ensures (subst (λ n. c.holder-found.result.1 ≤ descent n) (seen_nodes c.self.invariant _ c.self.view_is c.args.tree blank within) c.holder-found.ensures.visits)
