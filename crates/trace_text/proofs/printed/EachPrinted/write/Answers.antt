use Rattle.zms_dev.proofs.Prints.{took_none, took_more, prints_failed, prints_all}
use Rattle.trace_text.proofs.Lists.{flat_map-item_more, flat_map-item_split, flat_map-all}
use Rattle.trace_text.proofs.printed.EachPrinted.write.Goals as goal

pub loop-item-init : goal.loop-item-init
loop-item-init g c = took_none _

pub returns-in_err-write : goal.returns-in_err-write
returns-in_err-write g c =
    prints_failed _ _ _ _ _ _ _ _ _ _ c.loop-item.invariant c.write.ensures c.in_err-write.was c.from_residual.ensures.0
    (flat_map-item_split g.T.Printed.text c.args.self.now.0.now c.loop-item.item-index c.item-item.result c.loop-item-test.true c.item-item.is)

pub loop-item-preserved : goal.loop-item-preserved
loop-item-preserved g c =
    took_more _ _ _ _ _ _ _ _ c.loop-item.invariant c.write.ensures c.in_ok-write.was
    (flat_map-item_more g.T.Printed.text c.args.self.now.0.now c.loop-item.item-index c.item-item.result c.loop-item-test.true c.item-item.is)

pub returns : goal.returns
returns g c = prints_all _ _ _ _ _ c.loop-item.invariant (flat_map-all g.T.Printed.text c.args.self.now.0.now c.loop-item.item-index c.loop-item-test.false)
