-- A pool between two calls.
use Rattle.std.specs.Prelude.{Bool, List}
use Rattle.range_tree.specs.declared.trees.RangeTrees.{RangeTrees}
use Rattle.ms_cell.specs.Turns.{Turns}
use Rattle.ms_cell.specs.Passes.{Passes, AreIdle}
use Rattle.class_group.specs.Turns.{ClassTurns}
use Rattle.class_group.specs.Passes.{ClassKnown, AreIdle as ClassesIdle}
use Rattle.lane_passes.specs.Lanes.{IsSeated}
use Rattle.lane_passes.specs.declared.passes.LanePasses.{LanePasses}
use Rattle.alloc_rows.specs.Serving.{IsServing}

-- the lane and the loader are at rest, and so is what no holder has
pub record AreAtRest (t : Turns) (c : ClassTurns) (keeper other : Passes) (collected : Bool) (lane : LanePasses RangeTrees) (rest : Passes) (class_rest : List ClassKnown) : Type 0 where
  pub lane_at : IsSeated t c lane
  pub loader_at : IsServing t keeper other collected
  pub rest_at : AreIdle t rest
  pub class_rest_at : ClassesIdle c class_rest
