use Rattle.std.proofs.Common.{◌≤◌}
use Rattle.txg_gate.specs.Closings.{closings_of}
use Rattle.ms_cell.specs.Passes.{Seated}
use Rattle.cell_rows.proofs.lanes.run_lane.Given as goal

abbrev pub invariant-loop-number : goal.invariant-loop-number
invariant-loop-number g l = Seated l.lane l.cells l.passes × (closings_of l.lane l.passes.gate.seen ≤ l.number)
