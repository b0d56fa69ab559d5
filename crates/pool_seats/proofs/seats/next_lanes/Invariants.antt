use Rattle.std.proofs.Common.{◌≡◌, ◌+◌, ◌≤◌, vec_len}
use Rattle.std.specs.Vec.{vec_capacity}
use Rattle.pool_seats.specs.Seats.{AreRights, StandAlike, AreNewLanes}
use Rattle.pool_seats.proofs.seats.next_lanes.Given as goal

abbrev pub invariant-loop-lane : goal.invariant-loop-lane
invariant-loop-lane l = record {
  least : 1 ≤ l.lane;
  room : l.fn.lanes ≤ vec_capacity l.seats;
  count : vec_len l.seats + 1 ≡ l.lane;
  rights : AreRights l.lane l.pool l.rest;
  same : StandAlike l.rest l.fn.rest;
  new : AreNewLanes l.pool l.fn.rest l.seats.items;
}
