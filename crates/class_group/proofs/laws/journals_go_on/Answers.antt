use Rattle.class_group.proofs.JournalLaws.{go_on}
use Rattle.class_group.proofs.laws.journals_go_on.Goals as goal

pub returns : goal.returns
returns c = go_on
