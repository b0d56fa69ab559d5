use Rattle.ms_cell.proofs.JournalLaws.{own_notes, keeper_groups, keeper_gate}
use Rattle.ms_cell.proofs.laws.holders_know_their_notes.Goals as goal

pub returns : goal.returns
returns c = record { own = own_notes; groups = keeper_groups; gate = keeper_gate }
