use Rattle.std.proofs.Common.{◌≡◌, ◌+◌, [], ◌∷◌, List, ℕ, sym, ap, ◌∙◌}
use Rattle.zms_dev.specs.Bytes.{byte, Outside, Holds}
use Rattle.zms_dev.specs.Disk.{bytes_of, Only}
use Rattle.zms_dev.specs.Runs.{Before}
use Rattle.zms_dev.proofs.Moments.{weaker}
use Rattle.zms_dev.proofs.Resting.{rests_spares}
use Rattle.zms_dev.proofs.Sparing.{spares_then}
use Rattle.uber_ring.specs.Writes.{IsOld, IsShut}
use Rattle.uber_ring.proofs.Stages.{resting, closing, shut_put, on_ok_both}
use Rattle.uber_ring.proofs.ring.close_gate.Goals as goal

pub returns-in_err-read_part-clause-any_moment : goal.returns-in_err-read_part-clause-any_moment
returns-in_err-read_part-clause-any_moment g c tells flushed =
    let old = g.D.Disk.state c.args.disk.now in
    weaker old (g.D.Disk.state c.read_part.new.disk) old.may_leave (IsOld c.args.at (bytes_of old)) (resting old c.args.at flushed) (c.in_err-read_part.ensures.rests tells).any_moment

pub returns-then-gate-clause-any_moment : goal.returns-then-gate-clause-any_moment
returns-then-gate-clause-any_moment g c tells flushed =
    let old = g.D.Disk.state c.args.disk.now in
    let mid = g.D.Disk.state c.read_part.new.disk in
    let new = g.D.Disk.state c.put.new.disk in
    let gate = Outside (c.args.at + 1023) 1 in
    let rests = c.in_ok-read_part.ensures.rests tells in
    let open_ : byte (bytes_of old) (c.args.at + 1023) ≡ 0xB1 = sym (ap (λ (b : List ℕ). byte b 0) (c.in_ok-read_part.ensures.part tells)) ∙ c.if-gate.true in
    let run = spares_then gate old mid new (rests_spares old mid gate rests) (c.put.ensures.spares rests.tells) in
    weaker old new (Before old gate) (IsOld c.args.at (bytes_of old)) (closing old c.args.at flushed open_) run.any_moment

pub returns-then-gate-clause-shut : goal.returns-then-gate-clause-shut
returns-then-gate-clause-shut g c tells flushed =
    let mid = g.D.Disk.state c.read_part.new.disk in
    let new = g.D.Disk.state c.put.new.disk in
    let there = (c.in_ok-read_part.ensures.rests tells).tells in
    on_ok_both c.put.result (Holds (bytes_of mid) (c.args.at + 1023) (0 ∷ []) (bytes_of new)) (Only (bytes_of new) new.may_leave) (IsShut new c.args.at)
    (λ holds only. shut_put new c.args.at (bytes_of mid) holds only) (c.put.ensures.written there) (c.put.ensures.durable there)

pub returns-else-gate-clause-any_moment : goal.returns-else-gate-clause-any_moment
returns-else-gate-clause-any_moment g c tells flushed =
    let old = g.D.Disk.state c.args.disk.now in
    weaker old (g.D.Disk.state c.read_part.new.disk) old.may_leave (IsOld c.args.at (bytes_of old)) (resting old c.args.at flushed) (c.in_ok-read_part.ensures.rests tells).any_moment
