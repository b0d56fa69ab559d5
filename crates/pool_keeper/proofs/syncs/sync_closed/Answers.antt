use Rattle.std.proofs.Common.{[]}
use Rattle.std.specs.declared.alloc.AllocError.{AllocError}
use Rattle.lane_passes.proofs.Journeys.{lane_stays_seated}
use Rattle.lane_passes.specs.Lanes.{cell_events}
use Rattle.pool_keeper.specs.Syncs.{failed}
use Rattle.pool_keeper.specs.SyncParts.{one}
use Rattle.pool_keeper.proofs.SyncActs.{did_turn, settled_later}
use Rattle.pool_keeper.proofs.SyncLines.{closed_done, closed_in_part}
use Rattle.pool_keeper.proofs.syncs.sync_closed.Goals as goal

pub returns-in-Err-clause-did : goal.returns-in-Err-clause-did
returns-in-Err-clause-did g c =
    did_turn c.args.cells.now _ _ c.args.passes.now c.take_up.new.passes c.args.keeper.now c.take_up.new.keeper (λ s x. one s (failed c.in-Err.fault x)) c.take_up.ensures.passes c.in-Err.ensures.turn

pub weigh_all-requires : goal.weigh_all-requires
weigh_all-requires g c = record { seated = lane_stays_seated _ c.args.cells.now c.args.classes.now [] c.args.passes.now c.take_up.new.passes c.requires.seated c.take_up.ensures.passes }

pub returns-in-Ok-weigh_all-clause-did : goal.returns-in-Ok-weigh_all-clause-did
returns-in-Ok-weigh_all-clause-did g c =
    closed_done AllocError c.args.cells.now c.args.group c.in-Ok.field-0 c.in-Ok.ensures.group c.args.passes.now c.take_up.new.passes c.weigh_all.new.passes c.args.keeper.now c.take_up.new.keeper
    c.take_up.ensures.passes c.in-Ok.ensures.turn c.in-Ok-weigh_all.ensures

pub returns-in-Ok-weigh_all-clause-settled : goal.returns-in-Ok-weigh_all-clause-settled
returns-in-Ok-weigh_all-clause-settled g c =
    let p = c.args.passes.now in
    let q = c.take_up.new.passes in
    let seated = lane_stays_seated _ c.args.cells.now c.args.classes.now [] p q c.requires.seated c.take_up.ensures.passes in
    let acted = c.weigh_all.ensures in
    settled_later c.args.cells.now c.args.group.0 q.lane (cell_events acted.events) q.cells c.weigh_all.new.passes.cells seated.cells.know.count acted.journey.cells c.in-Ok.ensures.settled

pub returns-in-Err-weigh_all-clause-did : goal.returns-in-Err-weigh_all-clause-did
returns-in-Err-weigh_all-clause-did g c =
    closed_in_part AllocError c.args.cells.now c.args.group c.in-Ok.field-0 c.in-Ok.ensures.group c.args.passes.now c.take_up.new.passes c.weigh_all.new.passes c.args.keeper.now c.take_up.new.keeper
    c.take_up.ensures.passes c.in-Ok.ensures.turn c.in-Err-weigh_all.field-0 c.in-Err-weigh_all.ensures
