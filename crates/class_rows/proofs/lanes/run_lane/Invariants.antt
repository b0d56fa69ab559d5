use Rattle.class_group.specs.Passes.{Seated}
use Rattle.class_rows.proofs.lanes.run_lane.Given as goal

abbrev pub invariant-loop-round : goal.invariant-loop-round
invariant-loop-round g l = Seated l.lane l.pool l.passes
