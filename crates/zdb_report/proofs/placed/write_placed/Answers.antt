use Rattle.std.proofs.Common.{arith}
use Rattle.zms_dev.proofs.Prints.{took_none, took_more, prints_failed, prints_all}
use Rattle.trace_text.proofs.Lists.{numbered-item_more, numbered-item_split, numbered-all}
use Rattle.zdb_report.proofs.placed.write_placed.Goals as goal

pub loop-place-init : goal.loop-place-init
loop-place-init g c = took_none _

pub returns-in_err-write_at : goal.returns-in_err-write_at
returns-in_err-write_at g c =
    prints_failed _ _ _ _ _ _ _ _ _ _ c.loop-place.invariant c.write_at.ensures c.in_err-write_at.was c.from_residual.ensures.0
    (numbered-item_split g.T.Placed.text 0 c.loop-place.place c.args.items.now c.loop-place.place c.index-items-place.result c.loop-place-test.true (omega arith) c.index-items-place.is)

pub loop-place-preserved : goal.loop-place-preserved
loop-place-preserved g c =
    took_more _ _ _ _ _ _ _ _ c.loop-place.invariant c.write_at.ensures c.in_ok-write_at.was
    (numbered-item_more g.T.Placed.text 0 c.loop-place.place c.args.items.now c.loop-place.place c.index-items-place.result c.loop-place-test.true (omega arith) c.index-items-place.is)

pub returns : goal.returns
returns g c = prints_all _ _ _ _ _ c.loop-place.invariant (numbered-all g.T.Placed.text 0 c.args.items.now c.loop-place.place c.loop-place-test.false)
