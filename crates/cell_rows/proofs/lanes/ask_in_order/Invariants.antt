use Rattle.std.proofs.Common.{◌≤◌}
use Rattle.txg_gate.specs.Closings.{closings_of}
use Rattle.ms_cell.specs.Passes.{Seated}
use Rattle.cell_rows.proofs.lanes.ask_in_order.Given as goal

abbrev pub invariant-loop-look : goal.invariant-loop-look
invariant-loop-look g l = Seated l.lane l.cells l.passes × (closings_of l.lane l.passes.gate.seen ≤ closings_of l.lane l.fn.passes.gate.seen)
