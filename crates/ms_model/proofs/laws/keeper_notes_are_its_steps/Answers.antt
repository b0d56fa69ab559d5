use Rattle.std.proofs.Common.{[], sym, ◌∙◌}
use Rattle.lane_steps.proofs.Steps.{follows_notes}
use Rattle.ms_model.specs.Parts.{right_of, gate_right}
use Rattle.ms_model.proofs.Rights.{parts, gate_parts}
use Rattle.ms_model.proofs.laws.keeper_notes_are_its_steps.Goals as goal

pub returns : goal.returns
returns c = record {
  metaslab = λ steps h lanes follows. sym ((parts h).1 lanes) ∙ follows_notes right_of 0 [] steps h follows;
  gate = λ steps g lanes follows. sym ((gate_parts g).1 lanes) ∙ follows_notes gate_right 0 [] steps g follows;
}
