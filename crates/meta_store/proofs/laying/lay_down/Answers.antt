use Rattle.zms_dev.proofs.Sparing.{spares_stays, spares_then}
use Rattle.meta_store.specs.NextGroups.{IsSpared}
use Rattle.meta_store.proofs.laying.lay_down.Goals as goal

pub returns-in_err-flush-clause-spares : goal.returns-in_err-flush-clause-spares
returns-in_err-flush-clause-spares g c tells =
    let old = g.D.Disk.state c.args.disk.now in
    let mid = g.D.Disk.state c.write_group.new.disk in
    let new = g.D.Disk.state c.flush.new.self in
    let spared = IsSpared c.args.head.now c.args.table.now.vdevs c.args.group in
    let run = c.write_group.ensures.spares tells in
    spares_then spared old mid new run
    (spares_stays spared mid new run.tells (g.met.D.Disk.only_now c.write_group.new.disk) c.flush.ensures.kind c.flush.ensures.time (c.flush.ensures.flushed run.tells).stays)

pub returns-clause-spares : goal.returns-clause-spares
returns-clause-spares g c tells =
    let old = g.D.Disk.state c.args.disk.now in
    let mid = g.D.Disk.state c.write_group.new.disk in
    let new = g.D.Disk.state c.flush.new.self in
    let spared = IsSpared c.args.head.now c.args.table.now.vdevs c.args.group in
    let run = c.write_group.ensures.spares tells in
    spares_then spared old mid new run
    (spares_stays spared mid new run.tells (g.met.D.Disk.only_now c.write_group.new.disk) c.flush.ensures.kind c.flush.ensures.time (c.flush.ensures.flushed run.tells).stays)
