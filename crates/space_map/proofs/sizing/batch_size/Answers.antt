use Rattle.zms_units.specs.declared.segments.Seg.{Seg}
use Rattle.space_map.proofs.Batching.{sized_all, sized_more}
use Rattle.space_map.proofs.sizing.batch_size.Goals as goal

abbrev none : Seg
none = record { start = 0; count = 0 }

pub loop-run-preserved : goal.loop-run-preserved
loop-run-preserved c =
    sized_more c.args.at c.args.runs.now c.loop-run.run-index c.loop-run.size c.run_size-size.result none c.loop-run-test.true c.loop-run.invariant c.run_size-size.ensures.size c.run_size-size.ensures.few

pub returns-clause-size : goal.returns-clause-size
returns-clause-size c = sized_all c.args.at c.args.runs.now c.loop-run.run-index c.loop-run.size c.loop-run-test.false c.loop-run.invariant
