use Rattle.std.proofs.Common.{sym}
use Rattle.pool_lanes.proofs.LaneRuns.{ran_from, serves_new}
use Rattle.pool_lanes.proofs.running.work.Goals as goal

pub run_lane-replies-requires-clause-serves : goal.run_lane-replies-requires-clause-serves
run_lane-replies-requires-clause-serves g c κs within =
    let e = c.new-keeper.ensures in serves_new c.args.pool.now c.args.turn.now c.args.seat c.new-keeper.result c.requires.can e.turn e.pass e.lane

pub returns : goal.returns
returns g c =
    let e = c.run_lane-replies.ensures in
    ran_from c.args.pool.now c.args.turn.now c.args.commands.now c.args.seat _ c.new-keeper.result c.run_lane-replies.new.keeper c.requires.can c.new-keeper.ensures.pass (sym c.into_pass.ensures)
    e.each e.theirs e.ran e.did e.seated
