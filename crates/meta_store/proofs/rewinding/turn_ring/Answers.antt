use Rattle.zms_dev.specs.Disk.{bytes_of}
use Rattle.std.proofs.Common.{arith}
use Rattle.zms_dev.proofs.Moments.{joined, weaker}
use Rattle.zms_dev.proofs.Resting.{rests_spares}
use Rattle.zms_dev.proofs.Sparing.{spares_then}
use Rattle.uber_ring.proofs.Stages.{on_ok}
use Rattle.meta_store.specs.Rewinds.{IsRewinding, HasClosed, ClosesOthers, IsNoGate, others_in}
use Rattle.meta_store.proofs.LastGroup.{adds_none, adds_then, still_whole, turned_first}
use Rattle.meta_store.proofs.RewindEnds.{closed_from}
use Rattle.meta_store.proofs.rewinding.turn_ring.Goals as goal

pub returns-in_err-read_ring-clause-any_moment : goal.returns-in_err-read_ring-clause-any_moment
returns-in_err-read_ring-clause-any_moment g c uber is tells may =
    let old = g.D.Disk.state c.args.disk.now in
    weaker old (g.D.Disk.state c.read_ring.new.disk) old.may_leave (IsRewinding uber (bytes_of old)) (still_whole uber old may) (c.in_err-read_ring.ensures.rests tells).any_moment

pub returns-clause-any_moment : goal.returns-clause-any_moment
returns-clause-any_moment g c uber is tells may =
    let old = g.D.Disk.state c.args.disk.now in
    let mid = g.D.Disk.state c.read_ring.new.disk in
    let new = g.D.Disk.state c.close_others.new.disk in
    let rests = c.in_ok-read_ring.ensures.rests tells in
    joined old mid new (IsRewinding uber (bytes_of old))
    (weaker old mid old.may_leave (IsRewinding uber (bytes_of old)) (still_whole uber old may) rests.any_moment)
    (c.close_others.ensures.any_moment uber (bytes_of old) is may.long (turned_first uber old may mid c.read_ring.new.groups rests (c.in_ok-read_ring.ensures.ring tells)))

pub returns-clause-done : goal.returns-clause-done
returns-clause-done g c uber is tells may =
    let old = g.D.Disk.state c.args.disk.now in
    let mid = g.D.Disk.state c.read_ring.new.disk in
    let rests = c.in_ok-read_ring.ensures.rests tells in
    c.close_others.ensures.done uber (bytes_of old) is may.long (turned_first uber old may mid c.read_ring.new.groups rests (c.in_ok-read_ring.ensures.ring tells))

pub returns-clause-flushes : goal.returns-clause-flushes
returns-clause-flushes g c tells =
    let old = g.D.Disk.state c.args.disk.now in
    let mid = g.D.Disk.state c.read_ring.new.disk in
    let rests = c.in_ok-read_ring.ensures.rests tells in
    adds_then old mid (g.D.Disk.state c.close_others.new.disk) (adds_none old mid rests.flushes) (c.close_others.ensures.flushes rests.tells)

pub returns-clause-closed : goal.returns-clause-closed
returns-clause-closed g c tells =
    let old = g.D.Disk.state c.args.disk.now in
    let mid = g.D.Disk.state c.read_ring.new.disk in
    let new = g.D.Disk.state c.close_others.new.disk in
    let rests = c.in_ok-read_ring.ensures.rests tells in
    let groups = c.read_ring.new.groups in
    let opened = c.args.opened in
    on_ok c.close_others.result (HasClosed (others_in groups opened) mid new) (ClosesOthers opened old new)
    (λ closed. record { groups = groups; slots = omega (arith, c.read_ring.auto.groups); ring = c.in_ok-read_ring.ensures.ring tells; closed = closed_from (others_in groups opened) old mid new rests.flushes closed })
    (c.close_others.ensures.closed rests.tells)

pub returns-in_err-read_ring-clause-spares : goal.returns-in_err-read_ring-clause-spares
returns-in_err-read_ring-clause-spares g c tells =
    rests_spares (g.D.Disk.state c.args.disk.now) (g.D.Disk.state c.read_ring.new.disk) IsNoGate (c.in_err-read_ring.ensures.rests tells)

pub returns-clause-spares : goal.returns-clause-spares
returns-clause-spares g c tells =
    let old = g.D.Disk.state c.args.disk.now in
    let mid = g.D.Disk.state c.read_ring.new.disk in
    let rests = c.in_ok-read_ring.ensures.rests tells in
    spares_then IsNoGate old mid (g.D.Disk.state c.close_others.new.disk) (rests_spares old mid IsNoGate rests) (c.close_others.ensures.spares rests.tells)
