use Rattle.std.proofs.Common.{arith}
use Rattle.seg_trees.proofs.Nodes.{may_reserve}
use Rattle.metaslab_rows.proofs.trees.TreeCalls.begin.Goals as goal

pub reserve-requires : goal.reserve-requires
reserve-requires g c = record { most = may_reserve _ 40 (omega arith) }
