use Rattle.lane_passes.proofs.Journeys.{lane_no_journey, lane_journeys_join, events_join, lane_stays_seated, lane_grounds_stay}
use Rattle.lane_passes.proofs.laws.journeys_join.Goals as goal

pub returns-clause-none : goal.returns-clause-none
returns-clause-none g c = lane_no_journey _

pub returns-clause-both : goal.returns-clause-both
returns-clause-both g c = lane_journeys_join _

pub returns-clause-events : goal.returns-clause-events
returns-clause-events g c = events_join

pub returns-clause-seated : goal.returns-clause-seated
returns-clause-seated g c = lane_stays_seated _

pub returns-clause-ground : goal.returns-clause-ground
returns-clause-ground g c = lane_grounds_stay _
