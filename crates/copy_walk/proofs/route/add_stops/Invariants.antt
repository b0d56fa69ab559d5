use Rattle.copy_walk.specs.Plans.{plan_of}
use Rattle.copy_walk.specs.Routes.{IsTaken, HasStops}
use Rattle.copy_walk.proofs.route.add_stops.Given as goal

abbrev pub invariant-loop-further : goal.invariant-loop-further
invariant-loop-further l = HasStops (plan_of l.rows l.class l.rotor l.earlier) (IsTaken (plan_of l.rows l.class l.rotor l.earlier) l.holding l.further) l.route
