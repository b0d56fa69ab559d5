use Rattle.ms_cell.proofs.JournalLaws.{lane_parts, keeper_parts}
use Rattle.ms_cell.proofs.laws.parts_are_steps.Goals as goal

pub returns : goal.returns
returns c = record { lanes = lane_parts; keeper = keeper_parts }
