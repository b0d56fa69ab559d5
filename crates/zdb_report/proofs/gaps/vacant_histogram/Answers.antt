use Rattle.std.proofs.Common.{arith}
use Rattle.zms_units.specs.declared.segments.Seg.{Seg}
use Rattle.zms_units.proofs.RisingSegs.{rising_at, rising_order}
use Rattle.std.proofs.Common.{drop}
use Rattle.zdb_report.proofs.GapWalk.{gathered_few, walk_more, walk_all}
use Rattle.zdb_report.proofs.gaps.vacant_histogram.Goals as goal

abbrev none : Seg
none = record { start = 0; count = 0 }

pub add_gap-requires-clause-most : goal.add_gap-requires-clause-most
add_gap-requires-clause-most c = let at = rising_at 0 c.args.units c.args.held.now c.loop-seg.seg-index none c.requires.segs c.loop-seg-test.true in omega (arith, at.1, at.2, c.requires.most)

pub add_gap-requires-clause-few : goal.add_gap-requires-clause-few
add_gap-requires-clause-few c =
    gathered_few c.args.held.now c.args.ashift c.loop-seg.at c.loop-seg.at c.loop-seg.hist c.loop-seg.invariant.gathered
    (omega (arith, rising_order c.loop-seg.at c.args.units (drop c.loop-seg.seg-index c.args.held.now) c.loop-seg.invariant.rising, c.requires.most))

pub overflow_add-at : goal.overflow_add-at
overflow_add-at c = let at = rising_at 0 c.args.units c.args.held.now c.loop-seg.seg-index none c.requires.segs c.loop-seg-test.true in omega (arith, at.2, c.requires.most)

pub loop-seg-preserved : goal.loop-seg-preserved
loop-seg-preserved c =
    walk_more c.args.held.now c.args.units c.args.ashift c.loop-seg.seg-index c.loop-seg.at c.loop-seg.hist none c.loop-seg-test.true c.loop-seg.invariant c.add_gap.new.hist c.add_gap.ensures

pub add_gap-requires-2-clause-few : goal.add_gap-requires-2-clause-few
add_gap-requires-2-clause-few c =
    gathered_few c.args.held.now c.args.ashift c.loop-seg.at c.loop-seg.at c.loop-seg.hist c.loop-seg.invariant.gathered
    (omega (arith, rising_order c.loop-seg.at c.args.units (drop c.loop-seg.seg-index c.args.held.now) c.loop-seg.invariant.rising, c.requires.most))

pub returns : goal.returns
returns c =
    walk_all c.args.held.now c.args.units c.args.ashift c.loop-seg.seg-index c.loop-seg.at c.loop-seg.hist c.add_gap-2.new.hist c.loop-seg.invariant
    (rising_order c.loop-seg.at c.args.units (drop c.loop-seg.seg-index c.args.held.now) c.loop-seg.invariant.rising) c.loop-seg-test.false c.add_gap-2.ensures
