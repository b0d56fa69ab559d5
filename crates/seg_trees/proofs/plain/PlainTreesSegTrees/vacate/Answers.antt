use Rattle.std.proofs.Common.{◌∙◌, List, length, length-set, refl, sym, ap, arith}
use Rattle.std.specs.Prelude.{◌||◌}
use Rattle.seg_trees.specs.OneSet.{OneSet}
use Rattle.seg_trees.specs.Kept.{TreeLists, sets_of, lists_of}
use Rattle.seg_trees.proofs.Elements.{new_is, stays_at, room_vacated, memory_kept}
use Rattle.seg_trees.proofs.plain.PlainTreesSegTrees.vacate.Goals as goal

pub returns-clause-into : goal.returns-clause-into
returns-clause-into c =
    λ u. stays_at c.exchange.new.trees c.args.from c.args.into _ u (λ e. c.requires.differ (sym e))
    ∙ ap (λ (ts : List OneSet). sets_of (lists_of ts) c.args.into u) c.exchange.ensures.trees
    ∙ new_is c.self.inside.trees c.args.into (lists_of c.self.inside.trees) (omega arith) refl c.merge_two.new.out u
    ∙ c.merge_two.ensures.set u
    ∙ ap (λ (s : TreeLists). sets_of s.lists c.args.from u || sets_of s.lists c.args.into u) c.self.view_is

pub returns-clause-from : goal.returns-clause-from
returns-clause-from c =
    λ u. new_is c.exchange.new.trees c.args.from (lists_of c.exchange.new.trees) (omega arith) refl _ u ∙ c.clear.ensures.set u

pub returns-clause-others : goal.returns-clause-others
returns-clause-others c =
    λ k u f g. stays_at c.exchange.new.trees c.args.from k _ u f
    ∙ ap (λ (ts : List OneSet). sets_of (lists_of ts) k u) c.exchange.ensures.trees
    ∙ stays_at c.self.inside.trees c.args.into k c.merge_two.new.out u g
    ∙ ap (λ (s : TreeLists). sets_of s.lists k u) c.self.view_is

pub returns-clause-memory : goal.returns-clause-memory
returns-clause-memory c =
    memory_kept c.self.inside.trees _ _ _ c.self.inside.limit _ (omega arith)
    (omega (arith, length-set c.exchange.new.trees c.args.from c.clear.new.self, length-set c.self.inside.trees c.args.into c.merge_two.new.out, ap (λ (v : List OneSet). length v) c.exchange.ensures.trees)) c.self.invariant
    (room_vacated c.self.inside.trees c.exchange.new.trees c.args.from c.args.into c.self.inside.limit c.index-self-from.result c.self.inside.buffer c.exchange.new.other c.merge_two.new.out c.clear.new.self
    (omega arith) (omega arith) c.requires.differ c.exchange.ensures.trees c.exchange.ensures.other c.self.invariant (c.merge_two.ensures.nodes c.index-self-from.result) c.merge_two.ensures.capacity c.merge_two.ensures.whole
    c.clear.ensures.nodes c.clear.ensures.capacity) c.self.view_is

pub invariant_of-self : goal.invariant_of-self
invariant_of-self c =
    room_vacated c.self.inside.trees c.exchange.new.trees c.args.from c.args.into c.self.inside.limit c.index-self-from.result c.self.inside.buffer c.exchange.new.other c.merge_two.new.out c.clear.new.self
    (omega arith) (omega arith) c.requires.differ c.exchange.ensures.trees c.exchange.ensures.other c.self.invariant (c.merge_two.ensures.nodes c.index-self-from.result) c.merge_two.ensures.capacity c.merge_two.ensures.whole
    c.clear.ensures.nodes c.clear.ensures.capacity
