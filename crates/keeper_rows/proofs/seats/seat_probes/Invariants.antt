use Rattle.std.proofs.Common.{◌+◌}
use Rattle.keeper_rows.specs.Parts.{AreSeats}
use Rattle.keeper_rows.proofs.seats.seat_probes.Given as goal

abbrev pub invariant-loop-number : goal.invariant-loop-number
invariant-loop-number l = AreSeats (l.number + 1) l.shared.cells l.shared.classes l.seats
