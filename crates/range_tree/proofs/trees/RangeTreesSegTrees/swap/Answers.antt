use Rattle.std.proofs.Common.{◌∙◌, ◌<◌, length, ap, arith}
use Rattle.std.proofs.lemmas.List.Sorted.{sum_by-IsPermutation}
use Rattle.seg_trees.specs.Sets.{all_nodes}
use Rattle.seg_trees.specs.Kept.{TreeLists, sets_of}
use Rattle.range_tree.specs.Kept.{placed}
use Rattle.range_tree.specs.Thirteen.{AreTrees}
use Rattle.range_tree.proofs.Among.{all_used_by}
use Rattle.range_tree.proofs.Moved.{trees_swapped, units_moved, units_stayed}
use Rattle.range_tree.proofs.trees.RangeTreesSegTrees.swap.Goals as goal
use Rattle.range_tree.proofs.trees.RangeTreesSegTrees.swap.Goals.{After-swap}

after : (c : After-swap) → AreTrees c.self.inside.pool c.swap.new.self
after c =
    let first : c.args.first < length c.self.inside.trees = omega (arith, c.requires.trees, c.self.invariant.thirteen) in
    let second : c.args.second < length c.self.inside.trees = omega (arith, c.requires.trees, c.self.invariant.thirteen) in
    trees_swapped c.self.invariant c.swap.new.self c.args.first c.args.second first second c.swap.ensures.len c.swap.ensures.by_index.0 c.swap.ensures.by_index.1 c.swap.ensures.by_index.2
    (omega (arith, sum_by-IsPermutation (λ t. length (placed c.self.inside.pool t)) c.self.inside.trees c.swap.new.self c.swap.ensures.permutation))

pub invariant_of-self : goal.invariant_of-self
invariant_of-self c = after (goal.at.invariant_of-self c).After-swap

pub returns-clause-first : goal.returns-clause-first
returns-clause-first c u =
    units_moved c.self.inside.pool c.self.inside.trees c.swap.new.self c.args.second c.args.first c.swap.ensures.len (omega (arith, c.requires.trees, c.self.invariant.thirteen)) (omega (arith, c.requires.trees, c.self.invariant.thirteen)) c.swap.ensures.by_index.0 u
    ∙ ap (λ (s : TreeLists). sets_of s.lists c.args.second u) c.self.view_is

pub returns-clause-second : goal.returns-clause-second
returns-clause-second c u =
    units_moved c.self.inside.pool c.self.inside.trees c.swap.new.self c.args.first c.args.second c.swap.ensures.len (omega (arith, c.requires.trees, c.self.invariant.thirteen)) (omega (arith, c.requires.trees, c.self.invariant.thirteen)) c.swap.ensures.by_index.1 u
    ∙ ap (λ (s : TreeLists). sets_of s.lists c.args.first u) c.self.view_is

pub returns-clause-others : goal.returns-clause-others
returns-clause-others c tree u f g =
    units_stayed c.self.inside.pool c.self.inside.trees c.swap.new.self tree c.swap.ensures.len (λ d. c.swap.ensures.by_index.2 tree d f g) u ∙ ap (λ (s : TreeLists). sets_of s.lists tree u) c.self.view_is

pub returns-clause-memory : goal.returns-clause-memory
returns-clause-memory c =
    omega (
      arith,
      all_used_by c.self.invariant,
      all_used_by (after (goal.at.returns-clause-memory c).After-swap),
      ap (λ (s : TreeLists). all_nodes (sets_of s.lists)) c.self.view_is,
      ap (λ (s : TreeLists). s.spare) c.self.view_is,
    )
