use Rattle.std.proofs.Common.{ℕ, List, subst}
use Rattle.std.specs.Prelude.{OnOk}
use Rattle.zms_dev.specs.Disk.{bytes_of}
use Rattle.zms_dev.specs.Runs.{LeavesOnly}
use Rattle.zms_dev.proofs.Sparing.{still_tells, spares_stays, spares_then}
use Rattle.meta_store.specs.Rewinds.{IsRewinding, IsTurnedLast, IsNoGate}
use Rattle.meta_store.proofs.LastGroup.{first_flush, no_flush, rewindable}
use Rattle.meta_store.proofs.RewindEnds.{ends_rewound}
use Rattle.meta_store.proofs.rewinding.rewind_disk.Goals as goal

pub returns-in_err-flush-clause-after_first : goal.returns-in_err-flush-clause-after_first
returns-in_err-flush-clause-after_first g c uber is tells valid long t rest flushes d left =
    absurd (no_flush (g.D.Disk.state c.args.disk.now) (g.D.Disk.state c.flush.new.self) t rest (c.in_err-flush.ensures.flushed tells).unnoted flushes)

pub returns-clause-after_first : goal.returns-clause-after_first
returns-clause-after_first g c uber is tells valid long t rest flushes d left =
    let old = g.D.Disk.state c.args.disk.now in
    let mid = g.D.Disk.state c.flush.new.self in
    let new = g.D.Disk.state c.turn_ring.new.disk in
    let flushed = c.in_ok-flush.ensures.flushed tells in
    let there = still_tells old mid tells c.in_ok-flush.ensures.kind in
    let may = rewindable uber (bytes_of old) mid flushed.stays.contents flushed.durable valid long in
    let run = c.turn_ring.ensures.any_moment uber is there may in
    first_flush old mid new (IsRewinding uber (bytes_of old)) t rest flushed.noted (c.turn_ring.ensures.flushes there) flushes
    (subst (λ (b : List ℕ). LeavesOnly mid new (IsRewinding uber b)) flushed.stays.contents run) d left

pub returns-clause-done : goal.returns-clause-done
returns-clause-done g c uber is tells valid long =
    let old = g.D.Disk.state c.args.disk.now in
    let mid = g.D.Disk.state c.flush.new.self in
    let new = g.D.Disk.state c.turn_ring.new.disk in
    let flushed = c.in_ok-flush.ensures.flushed tells in
    let there = still_tells old mid tells c.in_ok-flush.ensures.kind in
    let may = rewindable uber (bytes_of old) mid flushed.stays.contents flushed.durable valid long in
    subst (λ (b : List ℕ). OnOk c.turn_ring.result (IsTurnedLast uber b new)) flushed.stays.contents (c.turn_ring.ensures.done uber is there may)

pub returns-clause-ends : goal.returns-clause-ends
returns-clause-ends g c uber is tells valid long =
    let old = g.D.Disk.state c.args.disk.now in
    let mid = g.D.Disk.state c.flush.new.self in
    let new = g.D.Disk.state c.turn_ring.new.disk in
    let flushed = c.in_ok-flush.ensures.flushed tells in
    let there = still_tells old mid tells c.in_ok-flush.ensures.kind in
    let may = rewindable uber (bytes_of old) mid flushed.stays.contents flushed.durable valid long in
    ends_rewound uber old mid new c.args.opened is flushed.stays.contents flushed.noted valid (g.met.D.Disk.only_now c.turn_ring.new.disk) c.turn_ring.result
    (c.turn_ring.ensures.any_moment uber is there may) (c.turn_ring.ensures.closed there) (c.turn_ring.ensures.done uber is there may)

pub returns-in_err-flush-clause-spares : goal.returns-in_err-flush-clause-spares
returns-in_err-flush-clause-spares g c tells =
    let flushed = c.in_err-flush.ensures.flushed tells in
    spares_stays IsNoGate (g.D.Disk.state c.args.disk.now) (g.D.Disk.state c.flush.new.self) tells (g.met.D.Disk.only_now c.args.disk.now) c.in_err-flush.ensures.kind c.in_err-flush.ensures.time flushed.stays

pub returns-clause-spares : goal.returns-clause-spares
returns-clause-spares g c tells =
    let old = g.D.Disk.state c.args.disk.now in
    let mid = g.D.Disk.state c.flush.new.self in
    let flushed = c.in_ok-flush.ensures.flushed tells in
    let there = still_tells old mid tells c.in_ok-flush.ensures.kind in
    spares_then IsNoGate old mid (g.D.Disk.state c.turn_ring.new.disk) (spares_stays IsNoGate old mid tells (g.met.D.Disk.only_now c.args.disk.now) c.in_ok-flush.ensures.kind c.in_ok-flush.ensures.time flushed.stays)
    (c.turn_ring.ensures.spares there)
