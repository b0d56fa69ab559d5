use Rattle.std.proofs.Common.{◌≡◌, ◌+◌, suc, length, arith, ◌∙◌}
use Rattle.seg_pool.proofs.Places.{IsSound-push, SameSlots-push}
use Rattle.seg_pool.proofs.link_vacant.Goals as goal

pub loop-preserved : goal.loop-preserved
loop-preserved g c =
    let before = c.loop.slots.items in
    let kept = c.loop.invariant in
    let place : c.len-place.result ≡ length before = omega (arith, c.loop.slots.ok, c.len-place.ensures) in
    let more : c.args.spare + (c.loop.counter + 1) ≡ suc (c.args.spare + c.loop.counter) = omega arith in (
      rw (c.push_reserved.ensures.items, place, more) (IsSound-push before (c.args.spare + c.loop.counter) c.loop.first (omega (arith, c.loop.slots.ok, kept.2, c.requires.fits)) kept.0),
      rw c.push_reserved.ensures.items (SameSlots-push _ before c.loop.first kept.1),
      omega (arith, kept.2, c.push_reserved.ensures.len),
      c.push_reserved.ensures.capacity ∙ kept.3,
    )
