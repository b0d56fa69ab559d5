use Rattle.ms_cell.proofs.JournalLaws.{of_holders}
use Rattle.ms_cell.proofs.laws.notes_are_of_holders.Goals as goal

pub returns : goal.returns
returns c = of_holders
