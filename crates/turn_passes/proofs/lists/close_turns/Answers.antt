use Rattle.std.proofs.Common.{◌≡◌, suc, ◌≤◌, List, [], ◌∷◌, ◌++◌, length, drop, refl, sym, ap, subst, ◌∙◌, arith}
use Rattle.std.specs.List.{All}
use Rattle.std.proofs.lemmas.List.Elements.{All-push}
use Rattle.turn_cell.specs.Notes.{StandsFor, Ends}
use Rattle.turn_cell.specs.Known.{Known}
use Rattle.turn_cell.specs.declared.kept.TheConstants.{MAX_RIGHT}
use Rattle.turn_passes.proofs.Pairs.{each_push, one_item, left_head}
use Rattle.turn_passes.proofs.lists.close_turns.Goals as goal

longer : {A : Type 0} (xs ys : List A) (x : A) → ys ≡ xs ++ x ∷ [] → length ys ≡ suc (length xs)
longer xs ys x is = ap length is ∙ one_more xs x
  where
    one_more : {A : Type 0} (xs : List A) (x : A) → length (xs ++ x ∷ []) ≡ suc (length xs)
    one_more [] x = refl
    one_more (y ∷ xs) x = ap suc (one_more xs x)

pub close_turn-requires-after_bounds : goal.close_turn-requires-after_bounds
close_turn-requires-after_bounds g c κs within =
    let n = length c.loop-turn.values.items in
    let so_far = c.loop-turn.invariant in
    let turn = left_head c.args.turns.items _ n c.in-Some.turn (sym c.in-Some.ensures.items ∙ so_far.turns) in
    let pass = left_head c.args.passes.items _ n c.in-Some-next.pass (sym c.in-Some-next.ensures.items ∙ so_far.passes) in
    c.requires.idle.at n _ _ turn.0 pass.0

pub loop-turn-preserved : goal.loop-turn-preserved
loop-turn-preserved g c =
    let n = length c.loop-turn.values.items in
    let so_far = c.loop-turn.invariant in
    let turn = left_head c.args.turns.items _ n c.in-Some.turn (sym c.in-Some.ensures.items ∙ so_far.turns) in
    let pass = left_head c.args.passes.items _ n c.in-Some-next.pass (sym c.in-Some-next.ensures.items ∙ so_far.passes) in
    let value = c.close_turn.result in
    let more = longer c.loop-turn.values.items c.push_reserved.new.self.items value c.push_reserved.ensures.items in
    record {
      turns = turn.1 ∙ ap (λ k. drop k c.args.turns.items) (sym more);
      passes = pass.1 ∙ ap (λ k. drop k c.args.passes.items) (sym more);
      left = omega (arith, so_far.left, c.in-Some.ensures.len, c.push_reserved.ensures.len);
      both = omega (arith, so_far.both, c.in-Some.ensures.len, c.in-Some-next.ensures.len);
      room = omega (arith, so_far.room, c.push_reserved.ensures.capacity);
      ends = each_push _ c.args.passes.items c.loop-turn.values.items _ n value so_far.ends c.push_reserved.ensures.items refl
          (λ p e. subst (λ (q : Known _ _). Ends g.T.Kept.right q.own q.seen (g.T.Kept.journal value)) (one_item c.args.passes.items n _ p pass.0 e) c.close_turn.ensures.ends);
      stands = each_push _ c.args.passes.items c.loop-turn.values.items _ n value so_far.stands c.push_reserved.ensures.items refl
          (λ p e. subst (λ (q : Known _ _). StandsFor g.T.Kept.stands q.fixed value) (one_item c.args.passes.items n _ p pass.0 e) c.close_turn.ensures.stands);
      rights = rw c.push_reserved.ensures.items (All-push (λ x. All (λ n. g.T.Kept.right n ≤ MAX_RIGHT) (g.T.Kept.journal x)) c.loop-turn.values.items value so_far.rights c.close_turn.ensures.rights);
    }
