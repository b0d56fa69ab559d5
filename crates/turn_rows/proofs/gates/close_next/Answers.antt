use Rattle.std.proofs.Common.{arith}
use Rattle.txg_gate.proofs.Closings.{closings_of_most}
use Rattle.turn_rows.proofs.gates.close_next.Goals as goal

pub close_open-requires-clause-few : goal.close_open-requires-clause-few
close_open-requires-clause-few c = rw c.ready.ensures.stays (omega (arith, closings_of_most c.args.lane c.args.gate.now.notes))
