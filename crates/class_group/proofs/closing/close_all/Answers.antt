use Rattle.std.proofs.Common.{◌≡◌, suc, ◌+◌, List, [], ◌∷◌, ◌++◌, length, length-append, drop, refl, sym, ap, subst, ◌∙◌, arith}
use Rattle.turn_passes.proofs.Pairs.{each_push, one_item, left_head}
use Rattle.class_group.specs.Passes.{ClassKnown}
use Rattle.class_group.specs.Closed.{IsHandedBack}
use Rattle.class_group.proofs.closing.close_all.Goals as goal

one_longer : {A : Type 0} (xs ys : List A) (x : A) → ys ≡ xs ++ x ∷ [] → length ys ≡ suc (length xs)
one_longer xs ys x is =
    let more : length (xs ++ x ∷ []) ≡ length xs + 1 = length-append xs (x ∷ []) in
    omega (arith, more, ap length is)

pub close_class-requires : goal.close_class-requires
close_class-requires g c =
    let n = length c.loop-turn.journals.items in
    let so_far = c.loop-turn.invariant in
    let turn = left_head c.args.turns.items _ n c.in-Some.turn (sym c.in-Some.ensures.items ∙ so_far.turns) in
    let pass = left_head c.args.passes.items _ n c.in-Some-next.pass (sym c.in-Some-next.ensures.items ∙ so_far.passes) in
    c.requires.idle.at n _ _ turn.0 pass.0

pub loop-turn-preserved : goal.loop-turn-preserved
loop-turn-preserved g c =
    let n = length c.loop-turn.journals.items in
    let so_far = c.loop-turn.invariant in
    let turn = left_head c.args.turns.items _ n c.in-Some.turn (sym c.in-Some.ensures.items ∙ so_far.turns) in
    let pass = left_head c.args.passes.items _ n c.in-Some-next.pass (sym c.in-Some-next.ensures.items ∙ so_far.passes) in
    let journal = c.close_class.result in
    let more = one_longer c.loop-turn.journals.items c.push_reserved.new.self.items journal c.push_reserved.ensures.items in
    record {
      turns = turn.1 ∙ ap (λ k. drop k c.args.turns.items) (sym more);
      passes = pass.1 ∙ ap (λ k. drop k c.args.passes.items) (sym more);
      left = omega (arith, so_far.left, c.in-Some.ensures.len, c.push_reserved.ensures.len);
      both = omega (arith, so_far.both, c.in-Some.ensures.len, c.in-Some-next.ensures.len);
      room = omega (arith, so_far.room, c.push_reserved.ensures.capacity);
      backs = each_push _ c.args.passes.items c.loop-turn.journals.items _ n journal so_far.backs c.push_reserved.ensures.items refl
          (λ p e. subst (λ (q : ClassKnown). IsHandedBack q journal) (one_item c.args.passes.items n _ p pass.0 e) c.close_class.ensures);
    }
