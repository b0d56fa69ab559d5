use Rattle.zms_dev.specs.Bytes.{Outside}
use Rattle.zms_dev.proofs.Moments.{weaker, joined}
use Rattle.zms_dev.proofs.Sparing.{spares_then}
use Rattle.uber_ring.specs.Writes.{IsNotValid, IsNew}
use Rattle.uber_ring.proofs.Stages.{none_is_new, flushes_then}
use Rattle.uber_ring.proofs.ring.fill_and_open.Goals as goal

pub returns-in_err-fill_slot-clause-any_moment : goal.returns-in_err-fill_slot-clause-any_moment
returns-in_err-fill_slot-clause-any_moment g c tells shut =
    weaker (g.D.Disk.state c.args.disk.now) (g.D.Disk.state c.fill_slot.new.disk) (IsNotValid c.args.at) (IsNew c.args.at c.args.uber.now) (none_is_new c.args.at c.args.uber.now)
    (c.fill_slot.ensures.any_moment tells shut)

pub returns-clause-any_moment : goal.returns-clause-any_moment
returns-clause-any_moment g c tells shut =
    let old = g.D.Disk.state c.args.disk.now in
    let mid = g.D.Disk.state c.fill_slot.new.disk in
    let new = g.D.Disk.state c.open_gate.new.disk in
    joined old mid new (IsNew c.args.at c.args.uber.now)
    (weaker old mid (IsNotValid c.args.at) (IsNew c.args.at c.args.uber.now) (none_is_new c.args.at c.args.uber.now) (c.fill_slot.ensures.any_moment tells shut))
    (c.open_gate.ensures.any_moment (c.fill_slot.ensures.spares tells).tells (c.in_ok-fill_slot.ensures.filled tells))

pub returns-clause-spares : goal.returns-clause-spares
returns-clause-spares g c tells =
    let run = c.fill_slot.ensures.spares tells in
    spares_then (Outside c.args.at 1024) (g.D.Disk.state c.args.disk.now) (g.D.Disk.state c.fill_slot.new.disk) (g.D.Disk.state c.open_gate.new.disk) run (c.open_gate.ensures.spares run.tells)

pub returns-clause-flushes : goal.returns-clause-flushes
returns-clause-flushes g c tells =
    flushes_then 1 1 (g.D.Disk.state c.args.disk.now) (g.D.Disk.state c.fill_slot.new.disk) (g.D.Disk.state c.open_gate.new.disk) (c.fill_slot.ensures.flushes tells)
    (c.open_gate.ensures.flushes (c.fill_slot.ensures.spares tells).tells)
