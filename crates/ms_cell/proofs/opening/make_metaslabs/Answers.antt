use Rattle.std.proofs.Common.{◌≡◌, ℕ, List, length, drop, sym, ap, subst, ◌∙◌, arith, Some}
use Rattle.std.specs.Prelude.{slice_get}
use Rattle.zms_units.specs.Segments.{AreSegs}
use Rattle.zms_units.specs.declared.segments.Seg.{Seg}
use Rattle.vdev_map.specs.Numbers.{row_at}
use Rattle.turn_passes.proofs.Pairs.{each_push, one_item, left_head}
use Rattle.ms_cell.specs.Closed.{StandsBy}
use Rattle.ms_cell.proofs.Bases.{each_pushed, longer}
use Rattle.ms_cell.proofs.opening.make_metaslabs.Goals as goal

pub make_cell-requires-clause-number : goal.make_cell-requires-clause-number
make_cell-requires-clause-number g c = omega (arith, c.loop-base.invariant.count, c.in-Some.ensures.len, c.requires.bases.count, c.len-number.ensures)

pub make_cell-requires-clause-base : goal.make_cell-requires-clause-base
make_cell-requires-clause-base g c = λ id inside number.
    let n = length c.loop-base.metaslabs.items in
    let base = left_head c.args.bases.items _ n c.in-Some.base (sym c.in-Some.ensures.items ∙ c.loop-base.invariant.left) in
    let place = number ∙ (c.len-number.ensures ∙ c.loop-base.metaslabs.ok.0) in
    subst (λ (l : List Seg). AreSegs (row_at c.args.vdevs.now id.vdev).units l) (sym c.into_vec.ensures)
    (c.requires.bases.each id c.in-Some.base inside (subst (λ (k : ℕ). slice_get c.args.bases.items k ≡ Some c.in-Some.base) (sym place) base.0))

pub loop-base-preserved : goal.loop-base-preserved
loop-base-preserved g c =
    let so_far = c.loop-base.invariant in
    let n = length c.loop-base.metaslabs.items in
    let base = left_head c.args.bases.items _ n c.in-Some.base (sym c.in-Some.ensures.items ∙ so_far.left) in
    let more = longer c.loop-base.metaslabs.items c.push_reserved.new.self.items c.in_ok-turn.turn c.push_reserved.ensures.items in
    let here : c.len-number.result ≡ n = c.len-number.ensures ∙ c.loop-base.metaslabs.ok.0 in
    let level : length c.loop-base.rests.items ≡ n = omega (arith, so_far.both, c.loop-base.metaslabs.ok.0, c.loop-base.rests.ok.0) in
    record {
      left = base.1 ∙ ap (λ k. drop k c.args.bases.items) (sym more);
      count = omega (arith, so_far.count, c.in-Some.ensures.len, c.push_reserved.ensures.len);
      both = omega (arith, so_far.both, c.push_reserved.ensures.len, c.push_reserved-in-Some.ensures.len);
      room = omega (arith, so_far.room, c.push_reserved.ensures.capacity);
      rooms = omega (arith, so_far.rooms, c.push_reserved-in-Some.ensures.capacity);
      rests = each_pushed _ c.loop-base.metaslabs.items _ c.loop-base.rests.items _ c.in_ok-turn.turn c.in_ok-turn.rest level so_far.rests c.push_reserved.ensures.items c.push_reserved-in-Some.ensures.items c.in_ok-turn.ensures.rest;
      stand = each_push _ c.args.bases.items c.loop-base.rests.items _ n c.in_ok-turn.rest so_far.stand c.push_reserved-in-Some.ensures.items level
          (λ b e.
          subst (λ (x : List Seg). StandsBy c.args.vdevs.now c.args.opened.0 n x c.in_ok-turn.rest) (c.into_vec.ensures ∙ one_item c.args.bases.items n _ b base.0 e)
          (subst (λ (k : ℕ). StandsBy c.args.vdevs.now c.args.opened.0 k c.into_vec.result.items c.in_ok-turn.rest) here c.in_ok-turn.ensures.stands));
    }
