use Rattle.ms_model.proofs.GateGroups.{lane_rises, lane_within}
use Rattle.ms_model.proofs.laws.open_group_never_falls.Goals as goal

pub returns : goal.returns
returns c = record { between = lane_rises; within = lane_within }
