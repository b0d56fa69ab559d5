use Rattle.std.proofs.Common.{ℕ, subst, sym}
use Rattle.zms_dev.specs.Bytes.{Outside}
use Rattle.zms_dev.specs.Disk.{bytes_of}
use Rattle.zms_dev.specs.Runs.{Spares}
use Rattle.zms_dev.proofs.Moments.{weaker, joined}
use Rattle.zms_dev.proofs.Sparing.{spares_then}
use Rattle.uber_ring.specs.Writes.{HasFlushed, IsOld, IsNew, IsOldOrNew}
use Rattle.uber_ring.proofs.Stages.{old_is, new_is, flushes_then}
use Rattle.uber_ring.proofs.ring.write_slot.Goals as goal

pub returns-in_err-close_gate-clause-any_moment : goal.returns-in_err-close_gate-clause-any_moment
returns-in_err-close_gate-clause-any_moment g c tells flushed =
    let old = g.D.Disk.state c.args.disk.now in
    let at = c.slot_place-at.result in
    let there : HasFlushed old at 1024 = subst (λ (p : ℕ). HasFlushed old p 1024) (sym c.slot_place-at.ensures) flushed in
    weaker old (g.D.Disk.state c.close_gate.new.disk) (IsOld at (bytes_of old)) (IsOldOrNew (bytes_of old) c.args.uber.now)
    (λ d. old_is (bytes_of old) d at c.args.uber.now c.slot_place-at.ensures) (c.close_gate.ensures.any_moment tells there)

pub returns-clause-any_moment : goal.returns-clause-any_moment
returns-clause-any_moment g c tells flushed =
    let old = g.D.Disk.state c.args.disk.now in
    let mid = g.D.Disk.state c.close_gate.new.disk in
    let new = g.D.Disk.state c.fill_and_open.new.disk in
    let at = c.slot_place-at.result in
    let uber = c.args.uber.now in
    let there : HasFlushed old at 1024 = subst (λ (p : ℕ). HasFlushed old p 1024) (sym c.slot_place-at.ensures) flushed in
    joined old mid new (IsOldOrNew (bytes_of old) uber)
    (weaker old mid (IsOld at (bytes_of old)) (IsOldOrNew (bytes_of old) uber) (λ d. old_is (bytes_of old) d at uber c.slot_place-at.ensures) (c.close_gate.ensures.any_moment tells there))
    (weaker mid new (IsNew at uber) (IsOldOrNew (bytes_of old) uber) (λ d. new_is (bytes_of old) d at uber c.slot_place-at.ensures)
    (c.fill_and_open.ensures.any_moment (c.close_gate.ensures.spares tells).tells (c.in_ok-close_gate.ensures.shut tells there)))

pub returns-clause-spares : goal.returns-clause-spares
returns-clause-spares g c tells =
    let old = g.D.Disk.state c.args.disk.now in
    let new = g.D.Disk.state c.fill_and_open.new.disk in
    let run = c.close_gate.ensures.spares tells in
    subst (λ (p : ℕ). Spares (Outside p 1024) old new) c.slot_place-at.ensures
    (spares_then (Outside c.slot_place-at.result 1024) old (g.D.Disk.state c.close_gate.new.disk) new run (c.fill_and_open.ensures.spares run.tells))

pub returns-clause-flushes : goal.returns-clause-flushes
returns-clause-flushes g c tells =
    flushes_then 1 2 (g.D.Disk.state c.args.disk.now) (g.D.Disk.state c.close_gate.new.disk) (g.D.Disk.state c.fill_and_open.new.disk) (c.close_gate.ensures.flushes tells)
    (c.fill_and_open.ensures.flushes (c.close_gate.ensures.spares tells).tells)
