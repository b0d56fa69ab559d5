use Rattle.turn_cell.specs.Lanes.{Ready}
use Rattle.turn_rows.proofs.lanes.run_lane.Given as goal

abbrev pub invariant-loop-number : goal.invariant-loop-number
invariant-loop-number g l = Ready (λ e. e.lane) l.lane l.turn l.pass
