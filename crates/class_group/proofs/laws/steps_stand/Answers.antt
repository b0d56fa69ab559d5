use Rattle.class_group.proofs.JournalLaws.{steps_stand}
use Rattle.class_group.proofs.laws.steps_stand.Goals as goal

pub returns : goal.returns
returns c = steps_stand
