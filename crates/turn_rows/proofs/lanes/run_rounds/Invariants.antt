use Rattle.turn_cell.specs.Lanes.{Ready}
use Rattle.turn_rows.proofs.lanes.run_rounds.Given as goal

abbrev pub invariant-loop-round : goal.invariant-loop-round
invariant-loop-round g l = Ready (λ e. e.lane) 1 l.turn l.first × Ready (λ e. e.lane) 2 l.turn l.second
