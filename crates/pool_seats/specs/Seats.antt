-- How a pool's rights are handed out before its lanes begin, and how they come back.
use Rattle.std.specs.Prelude.{◌≡◌, ℕ, ◌+◌, Option, Some, List, length, slice_get}
use Rattle.zms_units.specs.declared.segments.Seg.{Seg}
use Rattle.turn_cell.specs.Known.{Known, TableId}
use Rattle.turn_passes.specs.Parts.{IsFresh}
use Rattle.ms_cell.specs.Closed.{BasesStand}
use Rattle.ms_cell.specs.Passes.{Passes, AreRests, AreFresh, StandAlike as CellsStandAlike}
use Rattle.class_group.specs.Passes.{AreRests as ClassesAreRests, AreFresh as ClassesAreFresh, StandAlike as ClassesStandAlike}
use Rattle.lane_passes.specs.declared.passes.LanePasses.{LanePasses}
use Rattle.meta_store.specs.Stores.{StoreState}
use Rattle.pool_keeper.specs.Keeper.{MayBegin}
use Rattle.pool_keeper.specs.Notes.{KeeperNoted}
use Rattle.pool_keeper.specs.declared.keeper.Start.{Start}
use Rattle.range_tree.specs.declared.trees.RangeTrees.{RangeTrees}
use Rattle.pool_seats.specs.Bases.{AreFirstWeights}
use Rattle.pool_seats.specs.declared.pool.Pool.{Pool}
use Rattle.pool_seats.specs.declared.pool.Rest.{Rest}
use Rattle.pool_seats.specs.declared.pool.Seat.{Seat}
use Rattle.pool_seats.specs.declared.opening.Prepared.{Prepared}

-- the passes of each right from this one on
pub record AreRights (right : ℕ) (pool : Pool) (rest : Rest) : Type 0 where
  pub cells : AreRests right pool.cells rest.cells
  pub classes : ClassesAreRests right pool.classes rest.classes

-- passes stand for what others do
pub record StandAlike (q p : Rest) : Type 0 where
  pub cells : CellsStandAlike q.cells p.cells
  pub classes : ClassesStandAlike q.classes p.classes

-- the passes of a lane that has done nothing yet, which stand for what the rest does
pub record IsNewLane (lane : ℕ) (pool : Pool) (rest : Rest) (p : LanePasses RangeTrees) : Type 0 where
  pub lane_is : p.lane ≡ lane
  pub cells : AreFresh lane pool.cells p.cells
  pub classes : ClassesAreFresh lane pool.classes p.classes
  pub cells_alike : CellsStandAlike p.cells rest.cells
  pub classes_alike : ClassesStandAlike p.classes rest.classes

-- and those of each lane from 1 on, in order
abbrev pub AreNewLanes : Pool → Rest → List (LanePasses RangeTrees) → Type 0
AreNewLanes pool rest lanes = (k : ℕ) (p : LanePasses RangeTrees) → slice_get lanes k ≡ Some p → IsNewLane (k + 1) pool rest p

module _ {D : Type 0} where
  -- a keeper's pass knows that it began with this store and these passes
  pub record StartsWith (store : StoreState D) (passes : Passes) (fixed : Option (Start D RangeTrees)) : Type 0 where
    pub start : Start D RangeTrees
    pub is : fixed ≡ Some start
    pub store_is : start.store.value ≡ store
    pub passes_are : start.passes.value ≡ passes

  -- each lane has its passes, and of the keeper's turn the pass that has the lane's right
  abbrev pub AreSeated : TableId → Known KeeperNoted (Start D RangeTrees) → List (LanePasses RangeTrees) → List (Seat D) → Type 0
  AreSeated turn rest lanes seats =
      (k : ℕ) (s : Seat D) → slice_get seats k ≡ Some s → (slice_get lanes k ≡ Some s.passes) × (IsFresh (k + 1) turn s.keeper × (s.keeper.fixed ≡ rest.fixed))

  -- the pool of a store as its lanes are to begin
  pub record IsPrepared (store : StoreState D) (bases : List (List Seg)) (lanes : ℕ) (p : Prepared) : Type 0 where
    pub begins : MayBegin p.pool.cells store p.keeper
    pub one : p.pool.classes.vdevs ≡ p.pool.cells.vdevs
    pub four : length p.pool.classes.cells ≡ 4
    pub rights : AreRights (lanes + 1) p.pool p.rest
    pub count : length p.lanes.items ≡ lanes
    pub new : AreNewLanes p.pool p.rest p.lanes.items
    pub keeper_alike : CellsStandAlike p.keeper p.rest.cells
    pub bases_stand : BasesStand bases p.rest.cells
    pub weights : AreFirstWeights store.layout.vdevs store.table p.pool.classes.weights
