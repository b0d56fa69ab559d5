use Rattle.std.proofs.Common.{◌≡◌, ℕ, ◌-◌, sym, ◌∙◌, ap, subst, arith, slice_index_or}
use Rattle.pool_lanes.proofs.Taking.{reply_left, reply_taken, all_taken}
use Rattle.pool_lanes.proofs.merging.merge.Goals as goal

pub unreachable-requires : goal.unreachable-requires
unreachable-requires c =
    let command = c.index-commands-at.result in
    let list = c.index_mut-list.result.now in
    let so_far = c.loop-at.invariant in
    let own : c.from.result ≡ command.lane = c.from.ensures ∙ ap (λ x. x.lane) (sym c.index-commands-at.is) in
    let here = subst (λ (k : ℕ). list ≡ slice_index_or c.loop-at.lists.items (k - 1) list) own c.index_mut-list.ensures.value in
    let left = reply_left (λ l. l.items) c.args.commands.now _ c.loop-at.at c.loop-at.lists.items c.loop-at.replies.items command list c.requires.lists so_far.left c.loop-at-test.true so_far.most
    c.index-commands-at.is here in
    omega (arith, left, list.ok.0, c.in_default.ensures.cases.0)

pub loop-at-preserved : goal.loop-at-preserved
loop-at-preserved c =
    let command = c.index-commands-at.result in
    let list = c.index_mut-list.result.now in
    let so_far = c.loop-at.invariant in
    let own : c.from.result ≡ command.lane = c.from.ensures ∙ ap (λ x. x.lane) (sym c.index-commands-at.is) in
    let here = subst (λ (k : ℕ). list ≡ slice_index_or c.loop-at.lists.items (k - 1) list) own c.index_mut-list.ensures.value in
    let taken = reply_taken (λ l. l.items) c.args.commands.now _ c.loop-at.at c.loop-at.lists.items c.loop-at.replies.items command list c.pop.new.self c.in-Some.reply c.requires.lists so_far.left
    c.loop-at-test.true so_far.most c.index-commands-at.is here c.in-Some.ensures.items in
    record {
      most = omega (arith, so_far.most);
      room = omega (arith, so_far.room, c.push_reserved.ensures.capacity);
      count = omega (arith, so_far.count, c.push_reserved.ensures.len, c.loop-at-test.true);
      left = rw c.push_reserved.ensures.items (rw own taken);
    }

pub returns : goal.returns
returns c = rw c.reverse.ensures.items (all_taken c.args.commands.now _ c.loop-at.at _ _ (omega (arith, c.loop-at-test.false)) c.loop-at.invariant.left)
