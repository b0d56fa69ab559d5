use Rattle.class_group.proofs.JournalLaws.{of_holders}
use Rattle.class_group.proofs.laws.notes_are_of_holders.Goals as goal

pub returns : goal.returns
returns c = of_holders
