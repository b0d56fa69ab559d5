-- A pool whose turns have ended.
use Rattle.std.specs.Prelude.{◌≡◌, ℕ, ◌≤◌, Some}
use Rattle.std.specs.List.{All}
use Rattle.zms_dev.specs.Disk.{DiskState}
use Rattle.turn_cell.specs.Known.{Known}
use Rattle.turn_cell.specs.Notes.{Ends}
use Rattle.turn_cell.specs.declared.kept.TheConstants.{MAX_RIGHT}
use Rattle.turn_passes.specs.Parts.{Has}
use Rattle.ms_cell.specs.Passes.{Passes, HaveAll, StandAlike}
use Rattle.ms_cell.specs.Closed.{AreClosed}
use Rattle.class_group.specs.Closed.{AreClosed as ClassesAreClosed}
use Rattle.pool_keeper.specs.Keeper.{IsSound}
use Rattle.pool_keeper.specs.Notes.{KeeperNoted, keeper_right}
use Rattle.pool_keeper.specs.declared.keeper.Start.{Start}
use Rattle.pool_keeper.specs.declared.keeper.Keeper.{Keeper}
use Rattle.range_tree.specs.declared.trees.RangeTrees.{RangeTrees}
use Rattle.pool_seats.specs.declared.pool.Pool.{Pool}
use Rattle.pool_seats.specs.declared.pool.Rest.{Rest}
use Rattle.pool_seats.specs.declared.closing.Closed.{Closed}

module _ {D : Type 0} (state : D → DiskState) (faults : D → ℕ) where
  -- the keeper ended as this, with all notes that the passes' rights need
  pub record IsKeeperClosed (pass zero : Known KeeperNoted (Start D RangeTrees)) (k : Keeper D RangeTrees) : Type 0 where
    pub start : pass.fixed ≡ Some k.start
    pub sound : IsSound state faults k
    pub last : Known KeeperNoted (Start D RangeTrees)
    pub has : Has last pass
    pub has_zero : Has last zero
    pub ends : Ends keeper_right last.own last.seen k.notes.items
    pub rights : All (λ n. keeper_right n ≤ MAX_RIGHT) k.notes.items

  -- the cells and the classes ended, with all notes that the passes of the rest and the keeper's needed
  pub record IsClosedPool (pool : Pool) (rest : Rest) (pass zero : Known KeeperNoted (Start D RangeTrees)) (c : Closed D) : Type 0 where
    pub keeper : Keeper D RangeTrees
    pub kept : IsKeeperClosed pass zero keeper
    pub store : keeper.store ≡ c.store
    pub notes : keeper.notes.items ≡ c.keeper.items
    pub last : Passes
    pub has : HaveAll last rest.cells
    pub has_keeper : HaveAll last keeper.passes
    pub alike : StandAlike last rest.cells
    pub cells : AreClosed pool.cells last c.gate c.metaslabs.items
    pub classes : ClassesAreClosed pool.classes rest.classes c.classes.items
