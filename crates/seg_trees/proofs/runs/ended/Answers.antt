use Rattle.std.proofs.Common.{rules}
use Rattle.std.proofs.lemmas.List.Sorted.{IsPartitionPoint-from_clause}
use Rattle.seg_trees.proofs.Places.{ends_by, ends_by_true, ends_by_false, ended_part}
use Rattle.seg_trees.proofs.runs.ended.Goals as goal

pub returns-clause-below : goal.returns-clause-below
returns-clause-below c =
    let point = IsPartitionPoint-from_clause (ends_by c.args.unit) c.args.runs.now c.partition_point.result c.partition_point.ensures.partitioned (ended_part 0 131073 c.args.unit c.args.runs.now c.requires) (λ a r q k. search rules) in
    λ k d le l. ends_by_true _ _ (point.0 k d le l)

pub returns-clause-above : goal.returns-clause-above
returns-clause-above c =
    let point = IsPartitionPoint-from_clause (ends_by c.args.unit) c.args.runs.now c.partition_point.result c.partition_point.ensures.partitioned (ended_part 0 131073 c.args.unit c.args.runs.now c.requires) (λ a r q k. search rules) in
    λ k d le l. ends_by_false _ _ (point.1 k d le l)
