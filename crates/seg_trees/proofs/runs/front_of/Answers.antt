use Rattle.std.proofs.Common.{arith}
use Rattle.zms_units.specs.declared.segments.Seg.{Seg}
use Rattle.zms_units.proofs.ApartRuns.{apart_at}
use Rattle.seg_trees.proofs.Searches.{none_beyond, none_within}
use Rattle.seg_trees.proofs.runs.front_of.Goals as goal

pub returns-then-index-runs-clause-alike : goal.returns-then-index-runs-clause-alike
returns-then-index-runs-clause-alike c =
    none_beyond c.args.runs.now c.requires.apart c.args.seg c.requires.segment c.ended-index.result c.args.seg
    (λ k d l. c.ended-index.ensures.below k d (omega arith) l) (omega arith)

pub returns-then-seg-run-clause-alike : goal.returns-then-seg-run-clause-alike
returns-then-seg-run-clause-alike c =
    let front : Seg = record { start = c.args.seg.start; count = c.min.result } in
    none_within c.args.runs.now c.requires.apart front (record { some = omega (arith, c.requires.segment.some, c.min.ensures); within = omega (arith, c.requires.segment.within, c.min.ensures) }) c.ended-index.result
    (record { start = 0; count = 0 }) (λ k d l. c.ended-index.ensures.below k d (omega arith) l) (omega (arith, c.min.ensures))

pub overflow_add-run : goal.overflow_add-run
overflow_add-run c =
    omega (arith, apart_at 0 131073 c.args.runs.now c.ended-index.result (record { start = 0; count = 0 }) c.requires.apart (omega (arith, c.ended-index.ensures.bound)))
