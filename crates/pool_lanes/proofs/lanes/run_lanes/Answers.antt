use Rattle.pool_lanes.proofs.Endings.{have_run}
use Rattle.pool_lanes.proofs.lanes.run_lanes.Goals as goal

pub run_begun-requires-clause-begun : goal.run_begun-requires-clause-begun
run_begun-requires-clause-begun g c κs within = (c.args.store, (c.args.bases.items, c.in-Ok.ensures.begun))

pub returns-in-Ok-clause-run : goal.returns-in-Ok-clause-run
returns-in-Ok-clause-run g c =
    have_run g.D.Disk.state g.D.Disk.faults c.args.store c.args.bases.items c.args.script.now c.group-opened.result c.run_begun.result.closed c.run_begun.result.replies c.tell.result c.group-opened.ensures.group
    (c.run_begun.ensures.ended c.args.store c.args.bases.items c.in-Ok.ensures.begun) c.tell.ensures.told c.tell.ensures.replies c.tell.ensures.group c.tell.ensures.meta
