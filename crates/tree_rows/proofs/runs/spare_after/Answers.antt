use Rattle.std.proofs.Common.{arith}
use Rattle.seg_trees.proofs.Nodes.{may_reserve}
use Rattle.tree_rows.proofs.runs.spare_after.Goals as goal

pub reserve-requires : goal.reserve-requires
reserve-requires c = record { most = may_reserve _ c.args.room (omega arith) }
