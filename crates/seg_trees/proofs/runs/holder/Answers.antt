use Rattle.std.proofs.Common.{arith}
use Rattle.zms_units.proofs.ApartRuns.{apart_at}
use Rattle.seg_trees.proofs.Places.{holds_at}
use Rattle.seg_trees.proofs.runs.holder.Goals as goal

pub overflow_add-run : goal.overflow_add-run
overflow_add-run c =
    omega (arith, apart_at 0 131073 c.args.runs.now c.ended-index.result (record { start = 0; count = 0 }) c.requires.apart (omega (arith, c.ended-index.ensures.bound)))

pub returns-then-index-runs-clause-none : goal.returns-then-index-runs-clause-none
returns-then-index-runs-clause-none c =
    λ all.
    let t = holds_at 131073 c.args.runs.now c.args.seg c.ended-index.result c.args.seg c.requires.apart c.requires.segment.some
    (λ k d l. c.ended-index.ensures.below k d (omega arith) l) c.ended-index.ensures.above all in
    omega (arith, t.0)

pub returns-then-seg-run-clause-none : goal.returns-then-seg-run-clause-none
returns-then-seg-run-clause-none c =
    λ all.
    let t = holds_at 131073 c.args.runs.now c.args.seg c.ended-index.result (record { start = 0; count = 0 }) c.requires.apart c.requires.segment.some
    (λ k d l. c.ended-index.ensures.below k d (omega arith) l) c.ended-index.ensures.above all in
    omega (arith, t.1)

pub returns-then-run-seg-clause-none : goal.returns-then-run-seg-clause-none
returns-then-run-seg-clause-none c =
    λ all.
    let t = holds_at 131073 c.args.runs.now c.args.seg c.ended-index.result (record { start = 0; count = 0 }) c.requires.apart c.requires.segment.some
    (λ k d l. c.ended-index.ensures.below k d (omega arith) l) c.ended-index.ensures.above all in
    omega (arith, t.2)
