use Rattle.ms_model.proofs.Overlaps.{unit_facts}
use Rattle.ms_model.proofs.laws.groups_add_up.Goals as goal

pub returns : goal.returns
returns c = λ o h t u legal. (unit_facts o h t u legal).adds
