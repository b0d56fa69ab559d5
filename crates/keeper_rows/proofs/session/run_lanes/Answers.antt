use Rattle.std.proofs.Common.{arith}
use Rattle.keeper_rows.proofs.Bases.{know_alike}
use Rattle.keeper_rows.proofs.session.run_lanes.Goals as goal

pub keep-requires-clause-units : goal.keep-requires-clause-units
keep-requires-clause-units g c =
    know_alike c.args.shared.now.cells c.args.held.now c.args.seats.cells c.in_ok-seats.passes (omega (arith, c.in_ok-seats.ensures.fresh.know.count, c.requires.seats.cells.know.count)) c.in_ok-seats.ensures.same c.requires.units
