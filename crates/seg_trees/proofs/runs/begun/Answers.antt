use Rattle.std.proofs.Common.{rules}
use Rattle.std.specs.Prelude.{nat_lt}
use Rattle.std.proofs.lemmas.Bool.{ltb-true, ltb-false}
use Rattle.std.proofs.lemmas.List.Sorted.{IsPartitionPoint-from_clause}
use Rattle.zms_units.specs.declared.segments.Seg.{Seg}
use Rattle.seg_trees.proofs.Places.{begun_part}
use Rattle.seg_trees.proofs.runs.begun.Goals as goal

pub returns-clause-below : goal.returns-clause-below
returns-clause-below c =
    let point = IsPartitionPoint-from_clause (λ (run : Seg). nat_lt run.start c.args.unit) c.args.runs.now c.partition_point.result c.partition_point.ensures.partitioned (begun_part 0 131073 c.args.unit c.args.runs.now c.requires) (λ a r q k. search rules) in
    λ k d le l. ltb-true _ _ (point.0 k d le l)

pub returns-clause-above : goal.returns-clause-above
returns-clause-above c =
    let point = IsPartitionPoint-from_clause (λ (run : Seg). nat_lt run.start c.args.unit) c.args.runs.now c.partition_point.result c.partition_point.ensures.partitioned (begun_part 0 131073 c.args.unit c.args.runs.now c.requires) (λ a r q k. search rules) in
    λ k d le l. ltb-false _ _ (point.1 k d le l)
