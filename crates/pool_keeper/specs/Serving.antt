-- What a lane has of the keeper, as a loader of metaslabs.
use Rattle.std.specs.Prelude.{◌≡◌, ℕ, ◌+◌, ◌-◌, ◌^◌, ◌≤◌, min, Option, Some, Err, List, [], ◌∷◌, length}
use Rattle.turn_cell.specs.Lanes.{Step, Ready, Went}
use Rattle.ms_cell.specs.declared.loader.LoadFault.{LoadFault}
use Rattle.ms_cell.specs.declared.loader.LoadFault.TheVariants.{Memory}
use Rattle.ms_cell.specs.Turns.{Turns}
use Rattle.pool_keeper.specs.Notes.{KeeperNoted, keeper_right}
use Rattle.pool_keeper.specs.Keeper.{IsOf}
use Rattle.pool_keeper.specs.Lines.{LoadNoted}
use Rattle.pool_keeper.specs.declared.keeper.Start.{Start}
use Rattle.pool_keeper.specs.declared.lane_keeper.LaneKeeper.{LaneKeeper}

-- all but want of memory are load refusals
abbrev pub IsRefusal : LoadFault → Type 0
IsRefusal Memory = ⊥
IsRefusal _ = Unit {0}

-- the steps of the lane in the keeper's journal are these refusals, in order, one a step
abbrev pub AreRefused : ℕ → List (Step KeeperNoted) → List LoadFault → Type 0
AreRefused lane [] [] = Unit {0}
AreRefused lane (s ∷ steps) (fault ∷ faults) = (IsRefusal fault × LoadNoted lane (Err fault) s.before s.note) × AreRefused lane steps faults
AreRefused lane [] (fault ∷ faults) = ⊥
AreRefused lane (s ∷ steps) [] = ⊥

-- the last one, or the one before all
abbrev pub last_of : Option LoadFault → List LoadFault → Option LoadFault
last_of last [] = last
last_of last (fault ∷ faults) = last_of (Some fault) faults

module _ {D R : Type 0} where
  -- it loads for this lane, at these cells: its pass has the lane's right, and the keeper is of the cells
  pub record Serves (k : LaneKeeper D R) (lane : ℕ) (t : Turns) : Type 0 where
    pub lane_is : k.lane ≡ lane
    pub start : Start D R
    pub is : k.pass.fixed ≡ Some start
    pub of : IsOf t start
    pub ready : Ready keeper_right lane k.turn.now k.pass

  -- one comes after another by loads, of which these were refused
  pub record Follows (a b : LaneKeeper D R) : Type 0 where
    pub turn : b.turn.now ≡ a.turn.now
    pub lane : b.lane ≡ a.lane
    pub steps : List (Step KeeperNoted)
    pub refused : List LoadFault
    pub went : Ready keeper_right a.lane a.turn.now a.pass → Went keeper_right a.lane steps a.pass b.pass
    pub loads : AreRefused a.lane steps refused
    pub count : a.refusals ≤ 2 ^ 64 - 1 → b.refusals ≡ min (a.refusals + length refused) (2 ^ 64 - 1)
    pub last : b.last ≡ last_of a.last refused

  -- a lane's turn at the keeper: the journal that it found, what it noted there, and of both what it answers; as a loader the
  -- lane's part stays as it was
  pub record KeeperTurn (lane : ℕ) (Answer : List KeeperNoted → Option KeeperNoted → Type 0) (a b : LaneKeeper D R) : Type 0 where
    pub before : List KeeperNoted
    pub note : Option KeeperNoted
    pub went : Went keeper_right lane (record { before = before; note = note } ∷ []) a.pass b.pass
    pub answer : Answer before note
    pub turn : b.turn.now ≡ a.turn.now
    pub lane_is : b.lane ≡ a.lane
    pub count : b.refusals ≡ a.refusals
    pub last : b.last ≡ a.last
