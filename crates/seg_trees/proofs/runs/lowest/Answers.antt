use Rattle.std.proofs.Common.{◌<◌, length, arith}
use Rattle.zms_units.specs.declared.segments.Seg.{Seg}
use Rattle.seg_trees.proofs.Searches.{none_beyond, none_within, is_lowest}
use Rattle.seg_trees.proofs.runs.lowest.Goals as goal

pub returns-then-index-runs-clause-none : goal.returns-then-index-runs-clause-none
returns-then-index-runs-clause-none c =
    none_beyond c.args.runs.now c.requires.apart c.args.seg c.requires.segment c.ended-index.result c.args.seg
    (λ k d l. c.ended-index.ensures.below k d (omega arith) l) (omega arith)

pub returns-then-seg-run-clause-none : goal.returns-then-seg-run-clause-none
returns-then-seg-run-clause-none c =
    none_within c.args.runs.now c.requires.apart c.args.seg c.requires.segment c.ended-index.result (record { start = 0; count = 0 })
    (λ k d l. c.ended-index.ensures.below k d (omega arith) l) (omega arith)

pub returns-clause-lowest : goal.returns-clause-lowest
returns-clause-lowest c =
    let d : Seg = record { start = 0; count = 0 } in
    let l : c.ended-index.result < length c.args.runs.now = omega (arith, c.ended-index.ensures.bound) in
    is_lowest c.args.runs.now c.requires.apart c.args.seg c.requires.segment c.ended-index.result d
    (λ k d l. c.ended-index.ensures.below k d (omega arith) l) l (c.ended-index.ensures.above c.ended-index.result d (omega arith) l) (omega arith) c.max.result c.max.ensures
