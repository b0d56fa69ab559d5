use Rattle.ms_cell.proofs.JournalLaws.{settles_stand, gate_settles_stand}
use Rattle.ms_cell.proofs.laws.settles_stand.Goals as goal

pub returns : goal.returns
returns c = record { metaslab = settles_stand; gate = gate_settles_stand }
