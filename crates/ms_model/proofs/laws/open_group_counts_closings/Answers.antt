use Rattle.ms_model.proofs.GateGroups.{gate_facts}
use Rattle.ms_model.proofs.laws.open_group_counts_closings.Goals as goal

pub returns : goal.returns
returns c = λ opened h legal. (gate_facts opened h legal).counts
