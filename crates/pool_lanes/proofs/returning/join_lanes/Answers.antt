use Rattle.std.proofs.Common.{◌≡◌, suc, ◌+◌, drop, sym, ap, ◌∙◌, arith}
use Rattle.std.proofs.lemmas.Option.{slice_get_within}
use Rattle.turn_passes.proofs.Pairs.{left_head}
use Rattle.pool_lanes.proofs.Joinings.{joined_more, joined_failed}
use Rattle.pool_lanes.proofs.returning.join_lanes.Goals as goal

pub join_seat-requires-clause-back : goal.join_seat-requires-clause-back
join_seat-requires-clause-back g c κs within =
    let i = c.loop-ran.invariant in
    c.requires.back i.0 c.in-Some.ran (left_head c.args.rans.items _ i.0 c.in-Some.ran (sym c.in-Some.ensures.steps.0 ∙ i.1.0)).0

pub loop-ran-preserved-in-Ok : goal.loop-ran-preserved-in-Ok
loop-ran-preserved-in-Ok g c =
    let i = c.loop-ran.invariant in
    let n = i.0 in
    let rans = c.args.rans.items in
    let new = c.join_seat.ensures in
    let head = left_head rans _ n c.in-Some.ran (sym c.in-Some.ensures.steps.0 ∙ i.1.0) in
    let next : suc n ≡ n + 1 = omega arith in (
      n + 1,
      (
        head.1 ∙ ap (λ k. drop k rans) next,
        (
          omega (arith, i.1.1.0, c.in-Some.ensures.steps.1),
          (
            omega (arith, i.1.1.1.0, c.push_reserved.ensures.capacity),
            joined_more c.args.pool.now c.args.turn.now c.args.rest.now c.args.keeper.now c.loop-ran.rest c.loop-ran.keeper rans c.loop-ran.lists.items c.loop-ran.failed n i.1.1.1.1 c.requires.rest c.requires.back c.in-Some.ran head.0
                c.join_seat.new.rest c.join_seat.new.keeper new.rest new.keeper new.keeps new.back c.in-Ok.list c.push_reserved.new.self.items c.in-Ok.is c.push_reserved.ensures.items,
          ),
        ),
      ),
    )

pub loop-ran-preserved : goal.loop-ran-preserved
loop-ran-preserved g c =
    let i = c.loop-ran.invariant in
    let n = i.0 in
    let rans = c.args.rans.items in
    let new = c.join_seat.ensures in
    let head = left_head rans _ n c.in-Some.ran (sym c.in-Some.ensures.steps.0 ∙ i.1.0) in
    let next : suc n ≡ n + 1 = omega arith in (
      n + 1,
      (
        head.1 ∙ ap (λ k. drop k rans) next,
        (
          omega (arith, i.1.1.0, c.in-Some.ensures.steps.1),
          (
            i.1.1.1.0,
            joined_failed c.args.pool.now c.args.turn.now c.args.rest.now c.args.keeper.now c.loop-ran.rest c.loop-ran.keeper rans c.loop-ran.lists.items c.loop-ran.failed n i.1.1.1.1 c.requires.rest c.requires.back c.in-Some.ran head.0
                c.join_seat.new.rest c.join_seat.new.keeper new.rest new.keeper new.keeps new.back c.in-Err.error,
          ),
        ),
      ),
    )

pub returns-in-None-failed-clause-back : goal.returns-in-None-failed-clause-back
returns-in-None-failed-clause-back g c = λ k r e.
    let i = c.loop-ran.invariant in
    i.1.1.1.1.back k r (omega (arith, slice_get_within c.args.rans.items k r e, i.1.1.0, c.in-None.ensures.steps)) e

pub returns-in-Some-failed-clause-back : goal.returns-in-Some-failed-clause-back
returns-in-Some-failed-clause-back g c = λ k r e.
    let i = c.loop-ran.invariant in
    i.1.1.1.1.back k r (omega (arith, slice_get_within c.args.rans.items k r e, i.1.1.0, c.in-None.ensures.steps)) e
