use Rattle.std.proofs.Common.{[], sym, ◌∙◌}
use Rattle.lane_steps.proofs.Steps.{follows_notes}
use Rattle.ms_model.specs.Parts.{right_of, gate_right}
use Rattle.ms_model.proofs.Rights.{parts, gate_parts}
use Rattle.ms_model.proofs.laws.lane_notes_are_its_steps.Goals as goal

pub returns : goal.returns
returns c = record {
  metaslab = λ lane steps h some follows. sym ((parts h).0 lane some) ∙ follows_notes right_of lane [] steps h follows;
  gate = λ lane steps h some follows. sym ((gate_parts h).0 lane some) ∙ follows_notes gate_right lane [] steps h follows;
}
