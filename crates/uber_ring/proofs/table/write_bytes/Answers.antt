use Rattle.zms_dev.proofs.Sparing.{spares_write}
use Rattle.uber_ring.proofs.table.write_bytes.Goals as goal

pub returns-clause-spares : goal.returns-clause-spares
returns-clause-spares g c tells =
    spares_write (g.D.Disk.state c.args.disk.now) (g.D.Disk.state c.write.new.self) _ _ _ tells (g.met.D.Disk.only_now c.args.disk.now) c.write.ensures.kind c.write.ensures.time (c.write.ensures.wrote tells)
