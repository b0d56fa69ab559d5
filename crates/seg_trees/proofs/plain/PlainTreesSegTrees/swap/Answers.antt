use Rattle.std.proofs.Common.{length, ap, ◌∙◌, arith}
use Rattle.std.proofs.lemmas.List.Sorted.{sum_by-IsPermutation}
use Rattle.seg_trees.specs.OneSet.{OneSet}
use Rattle.seg_trees.specs.Kept.{TreeLists, sets_of}
use Rattle.seg_trees.proofs.Elements.{moved, room_swapped, memory_kept}
use Rattle.seg_trees.proofs.plain.PlainTreesSegTrees.swap.Goals as goal

pub invariant_of-self : goal.invariant_of-self
invariant_of-self c = room_swapped c.self.inside.trees c.swap.new.self c.self.inside.limit c.self.inside.buffer c.swap.ensures.permutation c.self.invariant

pub returns-clause-first : goal.returns-clause-first
returns-clause-first c =
    λ u. moved c.self.inside.trees c.swap.new.self c.args.second c.args.first c.swap.ensures.by_index.0 u ∙ ap (λ (s : TreeLists). sets_of s.lists c.args.second u) c.self.view_is

pub returns-clause-second : goal.returns-clause-second
returns-clause-second c =
    λ u. moved c.self.inside.trees c.swap.new.self c.args.first c.args.second c.swap.ensures.by_index.1 u ∙ ap (λ (s : TreeLists). sets_of s.lists c.args.first u) c.self.view_is

pub returns-clause-others : goal.returns-clause-others
returns-clause-others c =
    λ k u f g. moved c.self.inside.trees c.swap.new.self k k (λ d. c.swap.ensures.by_index.2 k d f g) u ∙ ap (λ (s : TreeLists). sets_of s.lists k u) c.self.view_is

pub returns-clause-spare : goal.returns-clause-spare
returns-clause-spare c =
    omega (
      arith,
      ap (λ (s : TreeLists). s.spare) c.self.view_is,
      sum_by-IsPermutation (λ (t : OneSet). length t.runs) c.self.inside.trees c.swap.new.self c.swap.ensures.permutation,
    )

pub returns-clause-memory : goal.returns-clause-memory
returns-clause-memory c =
    memory_kept c.self.inside.trees c.swap.new.self _ _ c.self.inside.limit _ (omega arith) (omega arith) c.self.invariant
    (room_swapped c.self.inside.trees c.swap.new.self c.self.inside.limit c.self.inside.buffer c.swap.ensures.permutation c.self.invariant) c.self.view_is
