use Rattle.std.proofs.Common.{rules, length, ◌≡◌, arith}
use Rattle.zms_dev.specs.Bytes.{Outside, Holds}
use Rattle.zms_dev.specs.Disk.{bytes_of, Only}
use Rattle.zms_dev.specs.Runs.{Before}
use Rattle.zms_dev.proofs.Moments.{weaker}
use Rattle.uber_ring.specs.Writes.{IsNotValid, IsFilled}
use Rattle.uber_ring.proofs.Stages.{filling, filled_put, on_ok_both}
use Rattle.uber_ring.proofs.ring.fill_slot.Goals as goal

pub returns-clause-any_moment : goal.returns-clause-any_moment
returns-clause-any_moment g c tells shut =
    let old = g.D.Disk.state c.args.disk.now in
    let len : length c.slot_body-body.result ≡ 1023 = search rules in
    weaker old (g.D.Disk.state c.put.new.disk) (Before old (Outside c.args.at (length c.slot_body-body.result))) (IsNotValid c.args.at) (filling old c.args.at shut (length c.slot_body-body.result) (omega (arith, len))) (c.put.ensures.spares tells).any_moment

pub returns-clause-filled : goal.returns-clause-filled
returns-clause-filled g c tells =
    let old = g.D.Disk.state c.args.disk.now in
    let new = g.D.Disk.state c.put.new.disk in
    on_ok_both c.put.result (Holds (bytes_of old) c.args.at c.slot_body-body.result (bytes_of new)) (Only (bytes_of new) new.may_leave) (IsFilled new c.args.at c.args.uber.now)
    (λ holds only. filled_put new c.args.at (bytes_of old) c.slot_body-body.result c.args.uber.now holds only (search rules) c.slot_body-body.ensures.body c.slot_body-body.ensures.zeros)
    (c.put.ensures.written tells) (c.put.ensures.durable tells)
