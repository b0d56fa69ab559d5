use Rattle.std.proofs.Common.{◌≡◌, ◌∙◌, ℕ, true, false, sym, ap, arith}
use Rattle.std.specs.Prelude.{◌||◌, ◌&&◌, not}
use Rattle.zms_units.specs.declared.segments.Seg.{Seg}
use Rattle.zms_units.specs.Segments.{covers}
use Rattle.zms_units.proofs.Covers.{covers_true}
use Rattle.seg_trees.specs.Kept.{TreeLists, sets_of}
use Rattle.seg_trees.proofs.Elements.{room_set, memory_kept, new_is, old_is, stays_at, others_stay, none_added, all_added}
use Rattle.std.proofs.lemmas.List.{length-set}
use Rattle.seg_trees.proofs.plain.PlainTrees.xor_front.Goals as goal

pub returns-then-held-clause-from : goal.returns-then-held-clause-from
returns-then-held-clause-from c =
    let view = ap (λ (s : TreeLists). s.lists) c.self.view_is in
    λ u. new_is c.self.inside.trees c.args.from _ (omega arith) view _ u
    ∙ c.remove.ensures.set u ∙ ap (λ b. not (covers (record { start = c.args.seg.start; count = c.front-count.result.0 }) u) && b) (old_is c.self.inside.trees c.args.from _ (omega arith) view _ u)

pub returns-then-held-clause-into : goal.returns-then-held-clause-into
returns-then-held-clause-into c =
    let view = ap (λ (s : TreeLists). s.lists) c.self.view_is in
    let front : Seg = record { start = c.args.seg.start; count = c.front-count.result.0 } in
    let held : (u : ℕ) → covers front u ≡ true → sets_of c.args.self.now.lists c.args.from u ≡ true =
    (λ u e. sym (old_is c.self.inside.trees c.args.from _ (omega arith) view _ u) ∙ c.front-count.ensures.alike u (covers_true front u e) ∙ c.if-held.true) in
    λ u. stays_at c.self.inside.trees c.args.from c.args.into _ u (λ e. c.requires.differ (sym e))
    ∙ ap (λ ls. sets_of ls c.args.into u) view
    ∙ none_added (covers front u) (sets_of c.args.self.now.lists c.args.from u) (sets_of c.args.self.now.lists c.args.into u) (held u)

pub returns-then-held-clause-others : goal.returns-then-held-clause-others
returns-then-held-clause-others c =
    λ k u f g. others_stay c.self.inside.trees c.args.from _ (omega arith) (ap (λ (s : TreeLists). s.lists) c.self.view_is) _ k u f

pub returns-else-held-clause-into : goal.returns-else-held-clause-into
returns-else-held-clause-into c =
    let view = ap (λ (s : TreeLists). s.lists) c.self.view_is in
    let front : Seg = record { start = c.args.seg.start; count = c.front-count.result.0 } in
    let missing : (u : ℕ) → covers front u ≡ true → sets_of c.args.self.now.lists c.args.from u ≡ false =
    (λ u e. sym (old_is c.self.inside.trees c.args.from _ (omega arith) view _ u) ∙ c.front-count.ensures.alike u (covers_true front u e) ∙ c.if-held.false) in
    λ u. new_is c.self.inside.trees c.args.into _ (omega arith) view _ u
    ∙ c.add.ensures.set u
    ∙ ap (λ b. covers front u || b) (old_is c.self.inside.trees c.args.into _ (omega arith) view _ u)
    ∙ all_added (covers front u) (sets_of c.args.self.now.lists c.args.from u) (sets_of c.args.self.now.lists c.args.into u) (missing u)

pub returns-else-held-clause-others : goal.returns-else-held-clause-others
returns-else-held-clause-others c =
    λ k u f g. others_stay c.self.inside.trees c.args.into _ (omega arith) (ap (λ (s : TreeLists). s.lists) c.self.view_is) _ k u g

pub invariant_of-self : goal.invariant_of-self
invariant_of-self c =
    room_set c.self.inside.trees c.args.from c.self.inside.limit c.index-self-from-then-held.result c.self.inside.buffer c.remove.new.self (omega arith) c.self.invariant
    (omega (arith, ap (λ (s : TreeLists). s.spare) c.self.view_is, c.self.invariant.fits, c.remove.ensures.nodes)) c.remove.ensures.capacity c.remove.ensures.whole

pub returns-then-held-clause-memory : goal.returns-then-held-clause-memory
returns-then-held-clause-memory c =
    memory_kept c.self.inside.trees _ _ _ c.self.inside.limit _ (omega arith) (omega (arith, length-set c.self.inside.trees c.args.from c.remove.new.self)) c.self.invariant
    (room_set c.self.inside.trees c.args.from c.self.inside.limit c.index-self-from-then-held.result c.self.inside.buffer c.remove.new.self (omega arith) c.self.invariant
    (omega (arith, ap (λ (s : TreeLists). s.spare) c.self.view_is, c.self.invariant.fits, c.remove.ensures.nodes)) c.remove.ensures.capacity c.remove.ensures.whole) c.self.view_is

pub invariant_of-self-else-held : goal.invariant_of-self-else-held
invariant_of-self-else-held c =
    room_set c.self.inside.trees c.args.into c.self.inside.limit c.index-self-into.result c.self.inside.buffer c.add.new.self (omega arith) c.self.invariant
    (omega (arith, ap (λ (s : TreeLists). s.spare) c.self.view_is, c.self.invariant.fits, c.add.ensures.nodes)) c.add.ensures.capacity c.add.ensures.whole

pub returns-else-held-clause-memory : goal.returns-else-held-clause-memory
returns-else-held-clause-memory c =
    memory_kept c.self.inside.trees _ _ _ c.self.inside.limit _ (omega arith) (omega (arith, length-set c.self.inside.trees c.args.into c.add.new.self)) c.self.invariant
    (room_set c.self.inside.trees c.args.into c.self.inside.limit c.index-self-into.result c.self.inside.buffer c.add.new.self (omega arith) c.self.invariant
    (omega (arith, ap (λ (s : TreeLists). s.spare) c.self.view_is, c.self.invariant.fits, c.add.ensures.nodes)) c.add.ensures.capacity c.add.ensures.whole) c.self.view_is
