use Rattle.ms_cell.proofs.JournalLaws.{places, gate_places}
use Rattle.ms_cell.proofs.laws.places_never_fall.Goals as goal

pub returns : goal.returns
returns c = record { metaslab = places; gate = gate_places }
