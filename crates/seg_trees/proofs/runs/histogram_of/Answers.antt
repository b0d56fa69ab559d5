use Rattle.std.proofs.Common.{take, length-take, cond, arith}
use Rattle.std.proofs.lemmas.List.Sums.{count_by-le-length, sum_by_more}
use Rattle.zms_units.specs.declared.segments.Seg.{Seg}
use Rattle.zms_units.specs.Weights.{is_in_bucket}
use Rattle.zms_units.proofs.ApartRuns.{apart_at}
use Rattle.seg_trees.proofs.Histograms.{length_fits}
use Rattle.seg_trees.proofs.runs.histogram_of.Goals as goal

pub loop-run-init : goal.loop-run-init
loop-run-init c = λ bucket l. c.empty-hist.ensures bucket

pub add-requires : goal.add-requires
add-requires c =
    let at = apart_at 0 131073 c.args.runs.now c.loop-run.run-index (record { start = 0; count = 0 }) c.requires.apart c.loop-run-test.true in
    record {
      shift = let shift = c.requires.ashift in (omega arith, omega arith);
      run = (at.1, omega (arith, at.2));
      few = λ bucket l.
          omega (
            arith,
            c.loop-run.invariant bucket l,
            count_by-le-length (is_in_bucket c.args.ashift bucket) (take c.loop-run.run-index c.args.runs.now),
            length-take c.loop-run.run-index c.args.runs.now,
            length_fits 0 131073 c.args.runs.now c.requires.apart,
          );
    }

pub loop-run-preserved : goal.loop-run-preserved
loop-run-preserved c = λ bucket l.
    omega (
      arith,
      c.add.ensures bucket l,
      c.loop-run.invariant bucket l,
      sum_by_more (λ (run : Seg). cond (is_in_bucket c.args.ashift bucket run) 1 0) c.args.runs.now c.loop-run.run-index (record { start = 0; count = 0 }) c.loop-run-test.true,
    )
