use Rattle.std.proofs.Common.{arith}
use Rattle.seg_trees.proofs.Nodes.{may_reserve}
use Rattle.tree_rows.proofs.bench.measure.Goals as goal

pub reserve-requires : goal.reserve-requires
reserve-requires g c = record { most = may_reserve _ 65008 (omega arith) }
