use Rattle.std.proofs.Common.{◌≤◌}
use Rattle.std.specs.Vec.{vec_capacity}
use Rattle.pool_seats.proofs.Weighing.{AreWeighedTo}
use Rattle.pool_seats.proofs.weights.first_weights.Given as goal

abbrev pub invariant-loop-number : goal.invariant-loop-number
invariant-loop-number g l = record {
  room : l.count ≤ vec_capacity l.weights;
  weighed : AreWeighedTo l.store.layout.vdevs l.store.table l.weights.items l.number;
}
