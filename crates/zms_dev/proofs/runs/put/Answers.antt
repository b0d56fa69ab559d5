use Rattle.std.proofs.Common.{length}
use Rattle.zms_dev.specs.Bytes.{Outside}
use Rattle.zms_dev.proofs.Sparing.{spares_write, spares_stays, spares_then}
use Rattle.zms_dev.proofs.runs.put.Goals as goal

pub returns-in_err-write-clause-spares : goal.returns-in_err-write-clause-spares
returns-in_err-write-clause-spares g c tells =
    spares_write (g.D.Disk.state c.args.disk.now) (g.D.Disk.state c.write.new.self) _ _ _ tells (g.met.D.Disk.only_now c.args.disk.now) c.write.ensures.kind c.write.ensures.time (c.write.ensures.wrote tells)

pub returns-clause-spares : goal.returns-clause-spares
returns-clause-spares g c tells =
    let wrote = spares_write (g.D.Disk.state c.args.disk.now) (g.D.Disk.state c.write.new.self) _ _ _ tells (g.met.D.Disk.only_now c.args.disk.now) c.write.ensures.kind c.write.ensures.time (c.write.ensures.wrote tells) in
    let out = Outside c.args.at (length c.args.bytes.now) in
    spares_then out _ (g.D.Disk.state c.write.new.self) _ wrote
    (spares_stays out (g.D.Disk.state c.write.new.self) (g.D.Disk.state c.flush.new.self) wrote.tells (g.met.D.Disk.only_now c.write.new.self) c.flush.ensures.kind c.flush.ensures.time (c.flush.ensures.flushed wrote.tells).stays)
