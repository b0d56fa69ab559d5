use Rattle.ms_model.proofs.Rights.{parts, gate_parts}
use Rattle.ms_model.proofs.laws.parts_are_of_rights.Goals as goal

pub returns : goal.returns
returns c = record { metaslab = parts; gate = gate_parts }
