use Rattle.class_group.proofs.JournalLaws.{own_notes}
use Rattle.class_group.proofs.laws.holders_know_their_notes.Goals as goal

pub returns : goal.returns
returns c = own_notes
