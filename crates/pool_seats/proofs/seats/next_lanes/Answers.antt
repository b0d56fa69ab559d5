use Rattle.std.proofs.Common.{◌≡◌, ℕ, ◌+◌, List, length, subst, arith, ⊎_elim, Some}
use Rattle.std.specs.Prelude.{slice_get}
use Rattle.turn_passes.proofs.Pairs.{get_push}
use Rattle.lane_passes.specs.declared.passes.LanePasses.{LanePasses}
use Rattle.range_tree.specs.declared.trees.RangeTrees.{RangeTrees}
use Rattle.pool_seats.specs.Seats.{IsNewLane}
use Rattle.pool_seats.proofs.Alike.{then, lane_of, back}
use Rattle.pool_seats.proofs.seats.next_lanes.Goals as goal

pub loop-lane-preserved : goal.loop-lane-preserved
loop-lane-preserved c =
    let so_far = c.loop-lane.invariant in
    let new = c.in_ok-next_lane.ensures in
    let seats = c.loop-lane.seats.items in
    let count : length seats + 1 ≡ c.loop-lane.lane = omega (arith, so_far.count, c.loop-lane.seats.ok.0) in
    record {
      least = omega (arith, so_far.least);
      room = omega (arith, so_far.room, c.push_reserved.ensures.capacity);
      count = omega (arith, so_far.count, c.push_reserved.ensures.len);
      rights = new.rest;
      same = then c.args.rest.now c.loop-lane.rest c.next_lane.new.rest so_far.same new.same;
      new = λ k p e.
          ⊎_elim
          (λ (t : slice_get seats k ≡ Some p). so_far.new k p t)
          (λ (t : (k ≡ length seats) × (c.in_ok-next_lane.field-0 ≡ p)).
          let is : c.loop-lane.lane ≡ k + 1 = omega (arith, count, t.0) in
          subst (λ (l : LanePasses RangeTrees). IsNewLane (k + 1) c.args.pool.now c.args.rest.now l) t.1
          (subst (λ (n : ℕ). IsNewLane n c.args.pool.now c.args.rest.now c.in_ok-next_lane.field-0) is
          (lane_of c.loop-lane.lane c.args.pool.now c.loop-lane.rest c.args.rest.now c.in_ok-next_lane.field-0 (back c.args.rest.now c.loop-lane.rest so_far.same) new.new)))
          (get_push seats c.in_ok-next_lane.field-0 k p (subst (λ (l : List (LanePasses RangeTrees)). slice_get l k ≡ Some p) c.push_reserved.ensures.items e));
    }
