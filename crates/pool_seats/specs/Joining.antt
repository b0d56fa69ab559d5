-- What lanes owned comes back to the rest, which then has all that each of them had.
use Rattle.std.specs.Prelude.{◌≡◌}
use Rattle.turn_cell.specs.Known.{Known, TableId}
use Rattle.turn_passes.specs.Parts.{IsIdle, Has}
use Rattle.ms_cell.specs.Passes.{AreIdle, HaveAll}
use Rattle.class_group.specs.Passes.{AreIdle as ClassesAreIdle, HaveAll as ClassesHaveAll}
use Rattle.pool_keeper.specs.Notes.{KeeperNoted}
use Rattle.pool_keeper.specs.declared.keeper.Start.{Start}
use Rattle.range_tree.specs.declared.trees.RangeTrees.{RangeTrees}
use Rattle.pool_seats.specs.declared.pool.Pool.{Pool}
use Rattle.pool_seats.specs.declared.pool.Rest.{Rest}
use Rattle.pool_seats.specs.declared.pool.Seat.{Seat}
use Rattle.pool_seats.specs.Seats.{StandAlike}

-- the rest, at rest
pub record AreIdleRest (pool : Pool) (rest : Rest) : Type 0 where
  pub cells : AreIdle pool.cells rest.cells
  pub classes : ClassesAreIdle pool.classes rest.classes

-- the rest has all that another had, and stands for what it stood for
pub record HasRest (q p : Rest) : Type 0 where
  pub cells : HaveAll q.cells p.cells
  pub classes : ClassesHaveAll q.classes p.classes
  pub alike : StandAlike q p

module _ {D : Type 0} where
  -- what a lane owned is at rest
  pub record IsBack (pool : Pool) (turn : TableId) (s : Seat D) : Type 0 where
    pub cells : AreIdle pool.cells s.passes.cells
    pub classes : ClassesAreIdle pool.classes s.passes.classes
    pub keeper : IsIdle turn s.keeper

  -- the rest has all that the lane had
  pub record AreBackFrom (rest : Rest) (keeper : Known KeeperNoted (Start D RangeTrees)) (s : Seat D) : Type 0 where
    pub cells : HaveAll rest.cells s.passes.cells
    pub classes : ClassesHaveAll rest.classes s.passes.classes
    pub has : Has keeper s.keeper

  -- the rest, and the keeper's pass beside it, have what they had
  pub record Keeps (old : Rest) (old_keeper : Known KeeperNoted (Start D RangeTrees)) (new : Rest) (keeper : Known KeeperNoted (Start D RangeTrees)) : Type 0 where
    pub rest : HasRest new old
    pub has : Has keeper old_keeper
    pub fixed : keeper.fixed ≡ old_keeper.fixed
