use Rattle.std.proofs.Common.{◌≡◌, ◌+◌, length, subst, ◌∙◌, arith}
use Rattle.std.proofs.Math.ListN.{length-set}
use Rattle.std.proofs.lemmas.Option.{slice_get_within}
use Rattle.turn_cell.specs.Known.{TableId}
use Rattle.turn_passes.specs.Parts.{IsRest, IsFresh}
use Rattle.turn_passes.proofs.Pairs.{each_set, each_push, one_item, read_at}
use Rattle.turn_passes.proofs.lists.next_passes.Goals as goal

pub next_pass-requires-clause-rest : goal.next_pass-requires-clause-rest
next_pass-requires-clause-rest g c κs within =
    let at = c.loop-at.at in
    let turn = read_at c.args.turns.now at c.index-turns-at.result c.loop-at-test.true c.index-turns-at.is in
    let rest = read_at c.loop-at.rests.items at c.index_mut.result.now (omega (arith, c.loop-at.invariant.size)) c.index_mut.ensures.value in
    (c.loop-at.invariant.rests.at at c.index-turns-at.result c.index_mut.result.now turn rest).1 (omega arith)

pub loop-at-preserved : goal.loop-at-preserved
loop-at-preserved g c =
    let at = c.loop-at.at in
    let so_far = c.loop-at.invariant in
    let new = c.next_pass.ensures in
    let turns = c.args.turns.now in
    let turn = read_at turns at c.index-turns-at.result c.loop-at-test.true c.index-turns-at.is in
    let rest = read_at c.loop-at.rests.items at c.index_mut.result.now (omega (arith, so_far.size)) c.index_mut.ensures.value in
    let count : length c.loop-at.passes.items ≡ at = omega (arith, so_far.count, c.loop-at.passes.ok.0) in
    record {
      count = omega (arith, so_far.count, c.push_reserved.ensures.len);
      room = omega (arith, so_far.room, c.push_reserved.ensures.capacity);
      size = rw length-set so_far.size;
      rests = each_set _ _ turns c.loop-at.rests.items at c.next_pass.new.rest so_far.rests
          (λ k t p ne both. ((λ lt. both.0 (omega arith)), (λ le. both.1 (omega arith))))
          (λ t e. ((λ lt. subst (λ (x : TableId). IsRest (c.args.right + 1) x c.next_pass.new.rest) (one_item turns at _ t turn e) new.rest), (λ le. absurd (omega arith))));
      fixed = each_set _ _ c.args.rests.now.items c.loop-at.rests.items at c.next_pass.new.rest so_far.fixed
          (λ k p q ne same. same)
          (λ p e. new.fixed.0 ∙ so_far.fixed.at at p c.index_mut.result.now e rest);
      fresh = each_push _ turns c.loop-at.passes.items _ at c.next_pass.result so_far.fresh c.push_reserved.ensures.items count
          (λ t e. subst (λ (x : TableId). IsFresh c.args.right x c.next_pass.result) (one_item turns at _ t turn e) new.fresh);
      same = each_push _ c.args.rests.now.items c.loop-at.passes.items _ at c.next_pass.result so_far.same c.push_reserved.ensures.items count
          (λ p e. new.fixed.1 ∙ so_far.fixed.at at p c.index_mut.result.now e rest);
    }

pub returns-clause-rests : goal.returns-clause-rests
returns-clause-rests g c = record {
  at = λ k t p e f. (c.loop-at.invariant.rests.at k t p e f).0 (omega (arith, slice_get_within c.args.turns.now k t e, c.loop-at-test.false));
}
