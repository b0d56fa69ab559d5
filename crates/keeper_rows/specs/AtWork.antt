-- A lane of a row.
use Rattle.std.specs.Prelude.{ℕ, ◌≤◌}
use Rattle.txg_gate.specs.Closings.{closings_of}
use Rattle.ms_cell.specs.Turns.{Turns}
use Rattle.class_group.specs.Turns.{ClassTurns}
use Rattle.lane_passes.specs.Lanes.{IsSeated}
use Rattle.lane_passes.specs.declared.passes.LanePasses.{LanePasses}
use Rattle.pool_keeper.specs.Serving.{Serves}
use Rattle.pool_keeper.specs.declared.lane_keeper.LaneKeeper.{LaneKeeper}

-- its passes are at rest, the keeper is of the same cells, and it closed at most so many groups
pub record IsAtWork {D R : Type 0} (t : Turns) (c : ClassTurns) (few : ℕ) (k : LaneKeeper D R) (p : LanePasses R) : Type 0 where
  pub seated : IsSeated t c p
  pub serves : Serves k p.lane t
  pub closings : closings_of p.lane p.cells.gate.seen ≤ few
