use Rattle.std.proofs.Common.{◌≡◌, ◌+◌, ◌≤◌, length, drop, vec_len}
use Rattle.std.specs.Vec.{vec_capacity}
use Rattle.std.specs.Vec.Iter.{into_iter_items, into_iter_len}
use Rattle.turn_passes.specs.Parts.{IsRest}
use Rattle.pool_seats.specs.Seats.{AreSeated}
use Rattle.pool_seats.proofs.seats.take_seats.Given as goal

abbrev pub invariant-loop-passes : goal.invariant-loop-passes
invariant-loop-passes g l = record {
  items : into_iter_items l.passes-iterator ≡ drop (length l.seats.items) l.fn.lanes.items;
  left : into_iter_len l.passes-iterator + vec_len l.seats ≡ length l.fn.lanes.items;
  room : length l.fn.lanes.items ≤ vec_capacity l.seats;
  lane : l.lane ≡ vec_len l.seats + 1;
  rest : IsRest l.lane l.turn l.rest;
  fixed : l.rest.fixed ≡ l.fn.rest.fixed;
  seated : AreSeated l.turn l.fn.rest l.fn.lanes.items l.seats.items;
}
