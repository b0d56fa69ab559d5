use Rattle.std.proofs.Common.{◌∙◌, ap, arith}
use Rattle.std.specs.Prelude.{◌||◌}
use Rattle.zms_units.specs.Segments.{covers}
use Rattle.seg_trees.specs.Kept.{TreeLists}
use Rattle.seg_trees.proofs.Elements.{old_is, new_is, others_stay, room_set, memory_kept}
use Rattle.std.proofs.lemmas.List.{length-set}
use Rattle.seg_trees.proofs.plain.PlainTreesSegTrees.add.Goals as goal

pub returns-clause-added : goal.returns-clause-added
returns-clause-added g c =
    let view = ap (λ (s : TreeLists). s.lists) c.self.view_is in
    λ u. new_is c.self.inside.trees c.args.tree _ (omega arith) view _ u
    ∙ c.add.ensures.set u ∙ ap (λ b. covers c.args.seg u || b) (old_is c.self.inside.trees c.args.tree _ (omega arith) view _ u)

pub returns-clause-others : goal.returns-clause-others
returns-clause-others g c =
    others_stay c.self.inside.trees c.args.tree _ (omega arith) (ap (λ (s : TreeLists). s.lists) c.self.view_is) _

pub returns-clause-memory : goal.returns-clause-memory
returns-clause-memory g c =
    memory_kept c.self.inside.trees _ _ _ c.self.inside.limit _ (omega arith) (omega (arith, length-set c.self.inside.trees c.args.tree c.add.new.self)) c.self.invariant
    (room_set c.self.inside.trees c.args.tree c.self.inside.limit c.index-self-tree.result c.self.inside.buffer c.add.new.self (omega arith) c.self.invariant
    (omega (arith, ap (λ (s : TreeLists). s.spare) c.self.view_is, c.self.invariant.fits, c.add.ensures.nodes)) c.add.ensures.capacity c.add.ensures.whole) c.self.view_is

pub invariant_of-self : goal.invariant_of-self
invariant_of-self g c =
    room_set c.self.inside.trees c.args.tree c.self.inside.limit c.index-self-tree.result c.self.inside.buffer c.add.new.self (omega arith) c.self.invariant
    (omega (arith, ap (λ (s : TreeLists). s.spare) c.self.view_is, c.self.invariant.fits, c.add.ensures.nodes)) c.add.ensures.capacity c.add.ensures.whole
