use Rattle.std.proofs.Common.{◌+◌}
use Rattle.keeper_rows.specs.Parts.{AreSeats, IsKeeperRest}
use Rattle.keeper_rows.proofs.seats.seat_lanes.Given as goal

abbrev pub invariant-loop-number : goal.invariant-loop-number
invariant-loop-number l = AreSeats (l.first + l.number) l.shared.cells l.shared.classes l.seats × IsKeeperRest (l.first + l.number) l.shared.cells l.turn l.rest
