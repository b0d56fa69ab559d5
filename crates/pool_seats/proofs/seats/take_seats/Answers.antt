use Rattle.std.proofs.Common.{◌≡◌, ℕ, suc, ◌+◌, List, length, drop, sym, ap, ◌∙◌, subst, arith, ⊎_elim, Some}
use Rattle.std.specs.Prelude.{slice_get}
use Rattle.turn_passes.specs.Parts.{IsFresh}
use Rattle.turn_passes.proofs.Pairs.{get_push, left_head}
use Rattle.pool_seats.specs.declared.pool.Seat.{Seat}
use Rattle.pool_seats.proofs.seats.take_seats.Goals as goal

pub loop-passes-preserved : goal.loop-passes-preserved
loop-passes-preserved g c =
    let so_far = c.loop-passes.invariant in
    let seats = c.loop-passes.seats.items in
    let lanes = c.args.lanes.items in
    let turn = c.args.turn.now in
    let keeper = c.next_pass-keeper.result in
    let n = length seats in
    let count : c.loop-passes.lane ≡ n + 1 = omega (arith, so_far.lane, c.loop-passes.seats.ok.0) in
    let head = left_head lanes _ n c.in-Some.passes (sym c.in-Some.ensures.steps.0 ∙ so_far.items) in
    let more : length c.push_reserved.new.self.items ≡ suc n = omega (arith, c.push_reserved.ensures.len, c.push_reserved.new.self.ok.0, c.loop-passes.seats.ok.0) in
    record {
      items = head.1 ∙ ap (λ k. drop k lanes) (sym more);
      left = omega (arith, so_far.left, c.in-Some.ensures.steps.1, c.push_reserved.ensures.len);
      room = omega (arith, so_far.room, c.push_reserved.ensures.capacity);
      lane = omega (arith, so_far.lane, c.push_reserved.ensures.len);
      rest = c.next_pass-keeper.ensures.rest;
      fixed = c.next_pass-keeper.ensures.fixed.0 ∙ so_far.fixed;
      seated = λ k s e.
          ⊎_elim
          (λ (t : slice_get seats k ≡ Some s). so_far.seated k s t)
          (λ (t : (k ≡ n) × (record { passes = c.in-Some.passes; keeper = keeper } ≡ s)).
          subst (λ (x : Seat _). (slice_get lanes k ≡ Some x.passes) × (IsFresh (k + 1) turn x.keeper × (x.keeper.fixed ≡ c.args.rest.now.fixed))) t.1
          (subst (λ (m : ℕ). (slice_get lanes m ≡ Some c.in-Some.passes) × (IsFresh (m + 1) turn keeper × (keeper.fixed ≡ c.args.rest.now.fixed))) (sym t.0)
          (head.0, (subst (λ (m : ℕ). IsFresh m turn keeper) count c.next_pass-keeper.ensures.fresh, c.next_pass-keeper.ensures.fixed.1 ∙ so_far.fixed))))
          (get_push seats (record { passes = c.in-Some.passes; keeper = keeper }) k s (subst (λ (l : List (Seat _)). slice_get l k ≡ Some s) c.push_reserved.ensures.items e));
    }
