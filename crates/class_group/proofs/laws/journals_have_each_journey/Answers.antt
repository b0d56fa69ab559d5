use Rattle.class_group.proofs.JournalLaws.{each_journey}
use Rattle.class_group.proofs.laws.journals_have_each_journey.Goals as goal

pub returns : goal.returns
returns c = each_journey
