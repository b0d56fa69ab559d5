use Rattle.std.proofs.Common.{inl, inr, refl}
use Rattle.zms_top.specs.Reports.{LanesLeave}
use Rattle.zms_top.specs.World.{world}
use Rattle.zms_top.proofs.Stopping.{asked_always, lanes_end}
use Rattle.zms_top.proofs.run.run_opened.Goals as goal

pub returns-in-Ok-clause-ends : goal.returns-in-Ok-clause-ends
returns-in-Ok-clause-ends g c read left at =
    let p = c.args.opened in
    let layout = c.args.store.now.layout in
    let table = c.args.store.now.table in
    let start = g.D.Disk.state c.args.store.now.disk in
    let mid = g.D.Disk.state c.rewind.new.self.disk in
    let end = g.D.Disk.state c.run_lanes.new.store.disk in
    let did = c.in-Ok.ensures in
    let lanes : LanesLeave p layout table c.args.commands.now
    (world read (g.K.Sink.state c.args.out.now) (g.T.Sink.state c.args.trace.now) mid (g.D.Disk.faults c.rewind.new.self.disk))
    (world left (g.K.Sink.state c.run_lanes.new.out) (g.T.Sink.state c.run_lanes.new.trace) end (g.D.Disk.faults c.run_lanes.new.store.disk))
    c.run_lanes.result.status c.run_lanes.result.journals c.run_lanes.result.lists = rw (did.layout, did.table) at (c.run_lanes.ensures.ends read left) in
    inr (lanes_end at p layout table c.requires.opened c.requires.store start mid _ _ did.after_first did.spares did.cause.steady
    (λ uber tells has lies. rw (did.layout, did.table) at (did.at_rest uber tells has lies)) did.ends did.tells (g.met.D.Disk.counts_now c.rewind.new.self.disk)
    c.args.commands.now end _ read left read left _ _ _ _ c.run_lanes.result.status c.run_lanes.result.journals c.run_lanes.result.lists lanes)

pub returns-in-Err-clause-ends : goal.returns-in-Err-clause-ends
returns-in-Err-clause-ends g c read left at =
    let p = c.args.opened in
    let did = c.in-Err.ensures in
    inl (record {
      status_is = c.refused.ensures.status;
      failed = did.cause.failed;
      device = asked_always at p c.args.store.now.layout c.args.store.now.table c.requires.opened c.requires.store (g.D.Disk.state c.args.store.now.disk) (g.D.Disk.state c.rewind.new.self.disk) (g.D.Disk.faults c.args.store.now.disk) (g.D.Disk.faults c.rewind.new.self.disk) did.after_first did.spares;
      spares = did.spares;
      out = refl;
      trace = refl;
      no_journals = c.refused.ensures.journals;
      no_lists = c.refused.ensures.lists;
    })
