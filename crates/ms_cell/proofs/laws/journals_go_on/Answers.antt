use Rattle.ms_cell.proofs.JournalLaws.{go_on}
use Rattle.ms_cell.proofs.laws.journals_go_on.Goals as goal

pub returns : goal.returns
returns c = go_on
