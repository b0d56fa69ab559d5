use Rattle.std.proofs.Common.{◌≡◌, suc, length, drop, refl, sym, ap, ◌∙◌, subst, arith}
use Rattle.turn_passes.proofs.Pairs.{each_push, one_item, left_head}
use Rattle.ms_core.specs.State.{MsState}
use Rattle.pool_lanes.specs.Lanes.{IsJournalOf, IsCountOf}
use Rattle.pool_lanes.proofs.telling.tell_metaslabs.Goals as goal

pub loop-metaslab-preserved : goal.loop-metaslab-preserved
loop-metaslab-preserved c =
    let so_far = c.loop-metaslab.invariant in
    let given = c.args.metaslabs.items in
    let n = length c.loop-metaslab.journals.items in
    let journals = c.push_reserved-in-loop-metaslab in
    let head = left_head given _ n c.in-Some.metaslab (sym c.in-Some.ensures.steps.0 ∙ so_far.items) in
    let more : length journals.new.self.items ≡ suc n = omega (arith, journals.ensures.len, journals.new.self.ok.0, c.loop-metaslab.journals.ok.0) in
    let counted : length c.loop-metaslab.totals.items ≡ n = omega (arith, so_far.both, c.loop-metaslab.totals.ok.0, c.loop-metaslab.journals.ok.0) in
    record {
      items = head.1 ∙ ap (λ k. drop k given) (sym more);
      left = omega (arith, so_far.left, c.in-Some.ensures.steps.1, journals.ensures.len);
      both = omega (arith, so_far.both, c.push_reserved.ensures.len, journals.ensures.len);
      room = omega (arith, so_far.room, journals.ensures.capacity);
      totals_room = omega (arith, so_far.totals_room, c.push_reserved.ensures.capacity);
      told = each_push (λ k m j. IsJournalOf m j) given c.loop-metaslab.journals.items journals.new.self.items n c.into_journal.result so_far.told journals.ensures.items refl
          (λ m e. subst (λ (x : MsState). IsJournalOf x c.into_journal.result) (one_item given n c.in-Some.metaslab m head.0 e)
          (record { id = c.into_journal.ensures.id; units = c.into_journal.ensures.units; ashift = c.into_journal.ensures.ashift; held = c.into_journal.ensures.held; notes = c.into_journal.ensures.notes }));
      counted = each_push (λ k m x. IsCountOf m x) given c.loop-metaslab.totals.items c.push_reserved.new.self.items n c.counts.result so_far.counted c.push_reserved.ensures.items counted
          (λ m e. subst (λ (x : MsState). IsCountOf x c.counts.result) (one_item given n c.in-Some.metaslab m head.0 e)
          (record { live = c.counts.ensures.live; deferred = c.counts.ensures.deferred; vacant = c.counts.ensures.vacant }));
    }
