use Rattle.ms_cell.proofs.JournalLaws.{steps_stand, gate_steps_stand}
use Rattle.ms_cell.proofs.laws.steps_stand.Goals as goal

pub returns : goal.returns
returns c = record { metaslab = steps_stand; gate = gate_steps_stand }
