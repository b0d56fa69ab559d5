use Rattle.std.proofs.Common.{refl, arith}
use Rattle.ms_core.proofs.Lookback.{settle_stops}
use Rattle.ms_core.proofs.looking.own_front.Goals as goal

pub returns-then-is_long_ago-clause-none : goal.returns-then-is_long_ago-clause-none
returns-then-is_long_ago-clause-none c = λ o legal _ e.
    settle_stops o c.args.notes.now c.loop-i.i _ c.args.seg.start c.args.lane c.args.group.0 legal c.loop-i-test.true c.loop-i.invariant.place (c.if-is_long_ago.ensures refl)
    (c.loop-i.invariant.rest o c.args.seg.start (omega arith) (omega (arith, c.loop-i.invariant.some))) e
