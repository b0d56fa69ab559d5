use Rattle.space_map.proofs.Deciding.{runs_certain, faults_certain, runs_show_no_fault}
use Rattle.space_map.proofs.laws.reading_is_certain.Goals as goal

pub returns : goal.returns
returns c = record { runs = runs_certain; faults = faults_certain; apart = runs_show_no_fault }
