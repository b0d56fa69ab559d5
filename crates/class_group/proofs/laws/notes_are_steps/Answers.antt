use Rattle.class_group.proofs.JournalLaws.{notes_steps}
use Rattle.class_group.proofs.laws.notes_are_steps.Goals as goal

pub returns : goal.returns
returns c = notes_steps
