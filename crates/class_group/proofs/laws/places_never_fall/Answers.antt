use Rattle.class_group.proofs.JournalLaws.{places}
use Rattle.class_group.proofs.laws.places_never_fall.Goals as goal

pub returns : goal.returns
returns c = places
