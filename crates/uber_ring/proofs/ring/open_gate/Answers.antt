use Rattle.std.proofs.Common.{◌+◌, [], ◌∷◌}
use Rattle.zms_dev.specs.Bytes.{Outside, Holds}
use Rattle.zms_dev.specs.Disk.{bytes_of}
use Rattle.zms_dev.specs.Runs.{Before}
use Rattle.zms_dev.proofs.Moments.{weaker}
use Rattle.uber_ring.specs.Writes.{IsNew, IsWritten}
use Rattle.uber_ring.proofs.Stages.{opening, written_put, on_ok}
use Rattle.uber_ring.proofs.ring.open_gate.Goals as goal

pub returns-clause-any_moment : goal.returns-clause-any_moment
returns-clause-any_moment g c tells filled =
    let old = g.D.Disk.state c.args.disk.now in
    weaker old (g.D.Disk.state c.put.new.disk) (Before old (Outside (c.args.at + 1023) 1)) (IsNew c.args.at c.args.uber.now) (opening old c.args.at c.args.uber.now filled) (c.put.ensures.spares tells).any_moment

pub returns-clause-written : goal.returns-clause-written
returns-clause-written g c tells filled place =
    let old = g.D.Disk.state c.args.disk.now in
    let new = g.D.Disk.state c.put.new.disk in
    on_ok c.put.result (Holds (bytes_of old) (c.args.at + 1023) (0xB1 ∷ []) (bytes_of new)) (IsWritten (bytes_of new) c.args.uber.now)
    (λ holds. written_put (bytes_of old) (bytes_of new) c.args.at c.args.uber.now holds filled.body filled.zeros c.requires.uber place) (c.put.ensures.written tells)
