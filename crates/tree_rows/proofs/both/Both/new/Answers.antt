use Rattle.std.proofs.Common.{arith}
use Rattle.seg_trees.proofs.Nodes.{may_reserve}
use Rattle.tree_rows.proofs.both.Both.new.Goals as goal

pub reserve-requires : goal.reserve-requires
reserve-requires c = record { most = may_reserve _ 20000 (omega arith) }

pub reserve-requires-2 : goal.reserve-requires-2
reserve-requires-2 c = record { most = may_reserve _ 20000 (omega arith) }
