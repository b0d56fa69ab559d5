use Rattle.std.proofs.Common.{◌∙◌, ap, arith}
use Rattle.seg_trees.specs.Kept.{TreeLists}
use Rattle.seg_trees.proofs.Elements.{new_is, others_stay, room_set, empty_whole, memory_kept}
use Rattle.std.proofs.lemmas.List.{length-set}
use Rattle.seg_trees.proofs.plain.PlainTreesSegTrees.clear.Goals as goal

pub returns-clause-empty : goal.returns-clause-empty
returns-clause-empty c =
    let view = ap (λ (s : TreeLists). s.lists) c.self.view_is in
    λ u. new_is c.self.inside.trees c.args.tree _ (omega arith) view _ u ∙ c.clear.ensures.set u

pub returns-clause-others : goal.returns-clause-others
returns-clause-others c =
    others_stay c.self.inside.trees c.args.tree _ (omega arith) (ap (λ (s : TreeLists). s.lists) c.self.view_is) _

pub returns-clause-memory : goal.returns-clause-memory
returns-clause-memory c =
    memory_kept c.self.inside.trees _ _ _ c.self.inside.limit _ (omega arith) (omega (arith, length-set c.self.inside.trees c.args.tree c.clear.new.self)) c.self.invariant
    (room_set c.self.inside.trees c.args.tree c.self.inside.limit c.index-self-tree.result c.self.inside.buffer c.clear.new.self (omega arith) c.self.invariant
    (omega (arith, ap (λ (s : TreeLists). s.spare) c.self.view_is, c.self.invariant.fits, c.clear.ensures.nodes)) c.clear.ensures.capacity (empty_whole c.clear.new.self.runs c.clear.ensures.nodes)) c.self.view_is

pub invariant_of-self : goal.invariant_of-self
invariant_of-self c =
    room_set c.self.inside.trees c.args.tree c.self.inside.limit c.index-self-tree.result c.self.inside.buffer c.clear.new.self (omega arith) c.self.invariant
    (omega (arith, ap (λ (s : TreeLists). s.spare) c.self.view_is, c.self.invariant.fits, c.clear.ensures.nodes)) c.clear.ensures.capacity (empty_whole c.clear.new.self.runs c.clear.ensures.nodes)
