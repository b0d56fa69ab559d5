use Rattle.std.proofs.Common.{length, arith}
use Rattle.zms_units.specs.declared.segments.Seg.{Seg}
use Rattle.zms_units.proofs.RisingSegs.{rising_at}
use Rattle.meta_store.proofs.NextUnits.{segs_more}
use Rattle.meta_store.proofs.condensing.put_segs.Goals as goal

abbrev none : Seg
none = record { start = 0; count = 0 }

pub put_range-requires-clause-within : goal.put_range-requires-clause-within
put_range-requires-clause-within c =
    let at = rising_at 0 (length c.args.marks.now) c.args.segs.now c.loop-seg.seg-index none c.requires c.loop-seg-test.true in
    omega (arith, at.2, c.loop-seg.auto.marks)

pub loop-seg-preserved : goal.loop-seg-preserved
loop-seg-preserved c u =
    segs_more c.args.segs.now c.loop-seg.seg-index none u c.args.value _ _ _ c.loop-seg-test.true (c.loop-seg.invariant u) (c.put_range.ensures u)
