use Rattle.ms_cell.proofs.JournalLaws.{each_journey}
use Rattle.ms_cell.proofs.laws.journals_have_each_journey.Goals as goal

pub returns : goal.returns
returns c = each_journey
