use Rattle.std.proofs.Common.{arith}
use Rattle.seg_trees.proofs.Nodes.{may_reserve}
use Rattle.tree_rows.proofs.runs.best_of_many.Goals as goal

pub reserve-requires : goal.reserve-requires
reserve-requires g c = record { most = may_reserve _ c.args.runs (omega arith) }
