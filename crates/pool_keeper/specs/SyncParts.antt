-- The parts of a sync.
use Rattle.std.specs.Prelude.{◌≡◌, ℕ, ◌+◌, Bool, true, Option, Some, None, Result, Ok, Err, List, [], ◌∷◌}
use Rattle.zms_units.specs.declared.faults.First.{First}
use Rattle.zms_units.specs.declared.segments.Group.{Group}
use Rattle.zms_units.specs.declared.places.MsId.{MsId}
use Rattle.vdev_map.specs.Numbers.{number_of, metaslabs_in}
use Rattle.turn_cell.specs.Lanes.{Step, Went}
use Rattle.txg_gate.specs.declared.gate.TooMany.{TooMany}
use Rattle.ms_core.specs.declared.faults.Counts.{Counts}
use Rattle.ms_cell.specs.declared.answers.CloseFault.TheVariants.{TooMany as Many}
use Rattle.ms_cell.specs.Turns.{Turns}
use Rattle.ms_cell.specs.Answers.{IsSight}
use Rattle.ms_cell.specs.GateAnswers.{CloseAnswer}
use Rattle.class_group.specs.Turns.{place_for}
use Rattle.lane_passes.specs.Lanes.{LaneEvent, Ground, Acted}
use Rattle.lane_passes.specs.Turns.{AtGate, AtMetaslab, AtClass, Then}
use Rattle.lane_passes.specs.declared.passes.LanePasses.{LanePasses}
use Rattle.pool_keeper.specs.Lines.{SyncNoted}
use Rattle.pool_keeper.specs.Notes.{KeeperNoted, keeper_right}
use Rattle.pool_keeper.specs.Syncs.{IsWeighedOnce, AreWeighed, AreWeighedInPart, TryLine}
use Rattle.pool_keeper.specs.declared.faults.SyncFault.{SyncFault}
use Rattle.pool_keeper.specs.declared.faults.SyncFault.TheVariants.{Suspended}
use Rattle.pool_keeper.specs.declared.lane_keeper.LaneKeeper.{LaneKeeper}

-- what a lane's first turn at the keeper notes: nothing; it answers the fault that the keeper has kept, if it has
abbrev pub MeetNoted : ℕ → Option First → List KeeperNoted → Option KeeperNoted → Type 0
MeetNoted lane None h note = note ≡ None
MeetNoted lane (Some first) h note = SyncNoted lane (Err (Suspended first)) h note

-- a metaslab was weighed, or seen and, for want of memory, not posted
abbrev pub WeighedAs : {E : Type 0} → ℕ → MsId → Result (Unit {0}) E → Ground → List LaneEvent → Type 0
WeighedAs lane id (Ok _) g es = IsWeighedOnce lane id g es
WeighedAs lane id (Err _) g es =
    (counts : Counts) × ((weight : ℕ) × Then (AtMetaslab (number_of g.vdevs id) (IsSight counts weight true)) (AtClass (place_for g.vdevs id.vdev) (λ s added. added ≡ None)) g es)

-- each was, or those before one at which memory ran out
abbrev pub AllWeighedAs : {E : Type 0} → ℕ → Result (Unit {0}) E → Ground → List LaneEvent → Type 0
AllWeighedAs lane (Ok _) g es = AreWeighed lane g (metaslabs_in g.vdevs) es
AllWeighedAs lane (Err _) g es = AreWeighedInPart lane g es

-- one turn at the keeper
pub data OneTurn (Line : Step KeeperNoted → Type 0) : List (Step KeeperNoted) → Type 0 where
  one : (t : Step KeeperNoted) → Line t → OneTurn Line (t ∷ [])

-- the open group was closed, or there was no memory to; or it stood too far ahead, and the keeper took no turn
pub data TryAnswer (lane : ℕ) (g : Ground) : Result (Result Group SyncFault) TooMany → List LaneEvent → List (Step KeeperNoted) → Type 0 where
  tried : (result : Result Group SyncFault) (es : List LaneEvent) (steps : List (Step KeeperNoted)) → ((again : Bool) → TryLine lane again g result es steps) → TryAnswer lane g (Ok result) es steps
  ahead : (many : TooMany) (es : List LaneEvent) → AtGate (CloseAnswer g.opened lane (Err (Many many))) g es → TryAnswer lane g (Err many) es []

-- behind an answer that the open group stands too far ahead: the group before it is committed, and the lane tries again
pub data BehindLine (lane : ℕ) (many : TooMany) (g : Ground) : Result Group SyncFault → List LaneEvent → List (Step KeeperNoted) → Type 0 where
  again : (group : Group) (result : Result Group SyncFault) (es : List LaneEvent) (t : Step KeeperNoted) (steps : List (Step KeeperNoted)) → group.0 + 1 ≡ many.open_group.0
      → SyncNoted lane (Ok group) t.before t.note → TryLine lane true g result es steps → BehindLine lane many g result es (t ∷ steps)
  cut : (fault : SyncFault) (t : Step KeeperNoted) → SyncNoted lane (Err fault) t.before t.note → BehindLine lane many g (Err fault) [] (t ∷ [])

module _ {D R : Type 0} where
  -- what a lane did in its passes and at the keeper, as a line says, by its events and its steps in the keeper's journal; as a
  -- loader the keeper's part stays as it was
  pub record Did (t : Turns) (Line : Ground → List LaneEvent → List (Step KeeperNoted) → Type 0) (p q : LanePasses R) (a b : LaneKeeper D R) : Type 0 where
    pub steps : List (Step KeeperNoted)
    pub acted : Acted t (λ g es. Line g es steps) p q
    pub went : Went keeper_right p.lane steps a.pass b.pass
    pub turn : b.turn.now ≡ a.turn.now
    pub lane_is : b.lane ≡ a.lane
    pub count : b.refusals ≡ a.refusals
    pub last : b.last ≡ a.last
