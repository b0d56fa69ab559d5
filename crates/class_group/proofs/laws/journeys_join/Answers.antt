use Rattle.class_group.proofs.JournalLaws.{no_journey, journeys_join, steps_join, stays_seated}
use Rattle.class_group.proofs.laws.journeys_join.Goals as goal

pub returns : goal.returns
returns c = record { none = no_journey; both = journeys_join; steps = steps_join; seated = stays_seated }
