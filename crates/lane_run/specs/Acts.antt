-- What a lane did in all journals of a pool between two moments.
use Rattle.std.specs.Prelude.{◌≡◌, ℕ, ◌+◌, ◌≤◌, List}
use Rattle.turn_cell.specs.Lanes.{Step, Went}
use Rattle.txg_gate.specs.Closings.{closings_of}
use Rattle.ms_cell.specs.Turns.{Turns}
use Rattle.lane_passes.specs.Lanes.{LaneEvent, Ground, Acted}
use Rattle.lane_passes.specs.declared.passes.LanePasses.{LanePasses}
use Rattle.pool_keeper.specs.Notes.{KeeperNoted, keeper_right}
use Rattle.pool_keeper.specs.declared.lane_keeper.LaneKeeper.{LaneKeeper}

-- whatever it was
abbrev pub Anything : Ground → List LaneEvent → List (Step KeeperNoted) → Type 0
Anything g es ks = Unit {0}

module _ {D R : Type 0} where
  -- its passes were p and are q, and its part of the keeper was a and is b: it took just these steps, which are as a fact says
  pub record LaneDid (t : Turns) (Fact : Ground → List LaneEvent → List (Step KeeperNoted) → Type 0) (p q : LanePasses R) (a b : LaneKeeper D R) : Type 0 where
    pub steps : List (Step KeeperNoted)
    pub acted : Acted t (λ g es. Fact g es steps) p q
    pub went : Went keeper_right p.lane steps a.pass b.pass
    pub turn : b.turn.now ≡ a.turn.now
    pub lane_is : b.lane ≡ a.lane

  -- it closed at most so many groups, and at most as many loads were refused to it
  pub record IsSpared (most : ℕ) (p q : LanePasses R) (a b : LaneKeeper D R) : Type 0 where
    pub closings : closings_of q.lane q.cells.gate.seen ≤ closings_of p.lane p.cells.gate.seen + most
    pub refusals : b.refusals ≤ a.refusals + most
