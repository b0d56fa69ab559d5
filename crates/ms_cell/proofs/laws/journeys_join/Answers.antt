use Rattle.ms_cell.proofs.JournalLaws.{no_journey, journeys_join, steps_join, stays_seated}
use Rattle.ms_cell.proofs.laws.journeys_join.Goals as goal

pub returns : goal.returns
returns c = record { none = no_journey; both = journeys_join; steps = steps_join; seated = stays_seated }
