use Rattle.std.proofs.Common.{refl}
use Rattle.turn_rows.proofs.lanes.keep_their_order.Goals as goal

pub lane_pass-two-requires-clause-right : goal.lane_pass-two-requires-clause-right
lane_pass-two-requires-clause-right g c = rw (c.lane_pass-one.ensures.kept, c.in-Ok.ensures.ok) refl

pub lane_pass-two-requires-clause-own : goal.lane_pass-two-requires-clause-own
lane_pass-two-requires-clause-own g c = rw (c.lane_pass-one.ensures.kept, c.in-Ok.ensures.ok) refl

pub lane_pass-three-requires-clause-right : goal.lane_pass-three-requires-clause-right
lane_pass-three-requires-clause-right g c = rw (c.lane_pass-two.ensures.kept, c.lane_pass-one.ensures.kept, c.in-Ok.ensures.ok) refl

pub lane_pass-three-requires-clause-own : goal.lane_pass-three-requires-clause-own
lane_pass-three-requires-clause-own g c = rw (c.lane_pass-two.ensures.kept, c.lane_pass-one.ensures.kept, c.in-Ok.ensures.ok) refl

pub lane_pass-four-requires-clause-right : goal.lane_pass-four-requires-clause-right
lane_pass-four-requires-clause-right g c = rw (c.lane_pass-three.ensures.kept, c.lane_pass-two.ensures.kept, c.lane_pass-one.ensures.kept, c.in-Ok.ensures.ok) refl

pub lane_pass-four-requires-clause-own : goal.lane_pass-four-requires-clause-own
lane_pass-four-requires-clause-own g c = rw (c.lane_pass-three.ensures.kept, c.lane_pass-two.ensures.kept, c.lane_pass-one.ensures.kept, c.in-Ok.ensures.ok) refl
