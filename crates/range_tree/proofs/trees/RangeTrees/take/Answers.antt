use Rattle.std.proofs.Common.{◌∙◌, ◌<◌, length, ap, arith}
use Rattle.std.specs.Prelude.{◌&&◌, not}
use Rattle.zms_units.specs.Segments.{covers}
use Rattle.range_tree.specs.Descents.{descent}
use Rattle.range_tree.proofs.Among.{blank, trees_after}
use Rattle.range_tree.proofs.Seen.{seen_units, seen_nodes, seen_after, changes}
use Rattle.range_tree.proofs.trees.RangeTrees.take.Goals as goal

pub invariant_of-self : goal.invariant_of-self
invariant_of-self c = trees_after c.self.invariant c.args.tree c.remove.new.tree blank (omega (arith, c.requires.tree, c.self.invariant.thirteen)) c.remove.ensures.tree c.remove.ensures.touches

pub returns-clause-removed : goal.returns-clause-removed
returns-clause-removed c u =
    let within : c.args.tree < length c.self.inside.trees = omega (arith, c.requires.tree, c.self.invariant.thirteen) in
    seen_after c.self.invariant _ c.self.view_is c.args.tree c.remove.new.tree blank within c.remove.ensures.tree c.remove.ensures.touches u
    ∙ c.remove.ensures.units u ∙ ap (λ b. not (covers c.args.seg u) && b) (seen_units c.self.invariant _ c.self.view_is c.args.tree blank within u)

pub returns-clause-changes : goal.returns-clause-changes
returns-clause-changes c =
    changes c.self.invariant _ c.self.view_is c.args.tree c.remove.new.tree blank (omega (arith, c.requires.tree, c.self.invariant.thirteen)) c.remove.ensures.tree c.remove.ensures.touches

pub returns-clause-visits : goal.returns-clause-visits
returns-clause-visits c =
    omega (arith, c.remove.ensures.visits, ap descent (seen_nodes c.self.invariant _ c.self.view_is c.args.tree blank (omega (arith, c.requires.tree, c.self.invariant.thirteen))))
