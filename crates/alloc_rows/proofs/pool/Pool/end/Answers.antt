use Rattle.ms_cell.proofs.Gathering.{seated_idle}
use Rattle.class_group.proofs.Gathering.{seated_idle as classes_idle}
use Rattle.alloc_rows.proofs.pool.Pool.end.Goals as goal

pub join_cells-requires-clause-second : goal.join_cells-requires-clause-second
join_cells-requires-clause-second g c = seated_idle 0 _ _ c.self.invariant.loader_at.keeper_at

pub join_cells-requires-2-clause-second : goal.join_cells-requires-2-clause-second
join_cells-requires-2-clause-second g c = seated_idle 2 _ _ c.self.invariant.loader_at.other_at

pub join_cells-requires-3-clause-second : goal.join_cells-requires-3-clause-second
join_cells-requires-3-clause-second g c = seated_idle _ _ _ c.self.invariant.lane_at.cells

pub join_classes-requires-clause-second : goal.join_classes-requires-clause-second
join_classes-requires-clause-second g c = classes_idle _ _ _ c.self.invariant.lane_at.classes
