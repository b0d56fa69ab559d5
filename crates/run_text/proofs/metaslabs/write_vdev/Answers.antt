use Rattle.std.proofs.Common.{arith}
use Rattle.zms_dev.proofs.Prints.{took_none, took_more, prints_failed, prints_all}
use Rattle.ms_core.specs.declared.faults.Counts.{Counts}
use Rattle.trace_text.proofs.Lists.{numbered-more, numbered-split, numbered-all}
use Rattle.run_text.specs.Texts.{metaslab_line}
use Rattle.run_text.proofs.metaslabs.write_vdev.Goals as goal

abbrev none : Counts
none = record { live = 0; deferred = 0; vacant = 0 }

pub loop-index-init : goal.loop-index-init
loop-index-init g c = took_none _

pub returns-in_err-write_metaslab : goal.returns-in_err-write_metaslab
returns-in_err-write_metaslab g c =
    prints_failed _ _ _ _ _ _ _ _ _ _ c.loop-index.invariant c.write_metaslab.ensures c.in_err-write_metaslab.was c.from_residual.ensures.0
    (numbered-split (metaslab_line c.args.vdev) 0 c.loop-index.index c.args.counts.now c.loop-index.index none c.loop-index-test.true (omega arith))

pub loop-index-preserved : goal.loop-index-preserved
loop-index-preserved g c =
    took_more _ _ _ _ _ _ _ _ c.loop-index.invariant c.write_metaslab.ensures c.in_ok-write_metaslab.was
    (numbered-more (metaslab_line c.args.vdev) 0 c.loop-index.index c.args.counts.now c.loop-index.index none c.loop-index-test.true (omega arith))

pub returns : goal.returns
returns g c = prints_all _ _ _ _ _ c.loop-index.invariant (numbered-all (metaslab_line c.args.vdev) 0 c.args.counts.now c.loop-index.index c.loop-index-test.false)
