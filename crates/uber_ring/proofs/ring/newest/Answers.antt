use Rattle.std.proofs.Common.{◌≡◌, ◌%◌, ◌∙◌, ℕ, List, subst}
use Rattle.zms_dev.specs.Disk.{bytes_of}
use Rattle.zms_dev.proofs.Resting.{rests_then}
use Rattle.uber_ring.specs.Slots.{IsUber, TheValid}
use Rattle.uber_ring.specs.declared.slot.Uber.{Uber}
use Rattle.uber_ring.proofs.NewestSoFar.{newest_more, newer_has}
use Rattle.uber_ring.proofs.ring.newest.Goals as goal

pub loop-slot-preserved : goal.loop-slot-preserved
loop-slot-preserved g c =
    let was = c.loop-slot.invariant in
    let newer = c.newer_of-best.ensures in
    let old = g.D.Disk.state c.args.disk.now in
    let mid = g.D.Disk.state c.loop-slot.disk in
    let new = g.D.Disk.state c.read_slot.new.disk in
    record {
      limits = newer_has IsUber c.loop-slot.best c.in_ok-found.found c.newer_of-best.result was.limits c.in_ok-found.ensures.limits newer.either;
      found = λ tells.
          let rests = was.rests tells in
          newest_more (bytes_of old) c.loop-slot.slot c.loop-slot.best c.in_ok-found.found c.newer_of-best.result newer.best newer.found (was.found tells)
          (subst (λ (image : List ℕ). TheValid image (λ (uber : Uber). uber.group.0 % 128 ≡ c.loop-slot.slot) c.in_ok-found.found) rests.contents (c.in_ok-found.ensures.found rests.tells)) newer.either;
      rests = λ tells. let rests = was.rests tells in rests_then old mid new rests (c.in_ok-found.ensures.rests rests.tells);
      flushes = λ tells. c.in_ok-found.ensures.flushes (was.rests tells).tells ∙ was.flushes tells;
      steady = c.in_ok-found.ensures.cause.steady ∙ was.steady;
    }
