use Rattle.zms_dev.proofs.Prints.{took_none, took_more, prints_failed, prints_all}
use Rattle.vdev_map.specs.Numbers.{row_at}
use Rattle.run_text.specs.Tallies.{VdevCounts}
use Rattle.run_text.specs.Texts.{vdev_lines}
use Rattle.run_text.proofs.VdevLines.{lines_more, lines_split, lines_all}
use Rattle.run_text.proofs.metaslabs.write_metaslabs.Goals as goal

pub loop-vdev-init : goal.loop-vdev-init
loop-vdev-init g c = took_none _

pub returns-in_err-write_vdev : goal.returns-in_err-write_vdev
returns-in_err-write_vdev g c =
    let here : VdevCounts = record { row = row_at c.args.vdevs.now c.loop-vdev.vdev; counts = c.counts_of.result.now } in
    prints_failed _ _ _ _ (vdev_lines c.loop-vdev.vdev here) _ _ _ _ _ c.loop-vdev.invariant c.write_vdev.ensures c.in_err-write_vdev.was c.from_residual.ensures.0
    (lines_split c.args.vdevs.now c.args.counts.now c.loop-vdev.vdev here c.loop-vdev-test.true c.counts_of.ensures.value)

pub loop-vdev-preserved : goal.loop-vdev-preserved
loop-vdev-preserved g c =
    let here : VdevCounts = record { row = row_at c.args.vdevs.now c.loop-vdev.vdev; counts = c.counts_of.result.now } in
    took_more _ _ _ _ (vdev_lines c.loop-vdev.vdev here) _ _ _ c.loop-vdev.invariant c.write_vdev.ensures c.in_ok-write_vdev.was
    (lines_more c.args.vdevs.now c.args.counts.now c.loop-vdev.vdev here c.loop-vdev-test.true c.counts_of.ensures.value)

pub returns : goal.returns
returns g c = prints_all _ _ _ _ _ c.loop-vdev.invariant (lines_all c.args.vdevs.now c.args.counts.now c.loop-vdev.vdev c.loop-vdev-test.false)
