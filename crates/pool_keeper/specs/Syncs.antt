-- What a sync of a lane did, and what it answers by that.
use Rattle.std.specs.Prelude.{◌≡◌, ℕ, ◌+◌, Bool, true, false, Some, None, Result, Ok, Err, List, [], ◌∷◌, ◌++◌}
use Rattle.zms_units.specs.declared.faults.First.{First}
use Rattle.zms_units.specs.declared.segments.Group.{Group}
use Rattle.zms_units.specs.declared.places.MsId.{MsId}
use Rattle.vdev_map.specs.Numbers.{IsIn, number_of, metaslabs_in}
use Rattle.turn_cell.specs.Lanes.{Step, Went}
use Rattle.ms_model.specs.declared.notes.ClassNote.TheVariants.{Weigh}
use Rattle.txg_gate.specs.declared.gate.TooMany.{TooMany}
use Rattle.ms_core.specs.declared.faults.Counts.{Counts}
use Rattle.ms_cell.specs.declared.answers.CloseFault.TheVariants.{TooMany as Many, Memory as CloseMemory}
use Rattle.ms_cell.specs.Turns.{Turns}
use Rattle.ms_cell.specs.Answers.{IsSight}
use Rattle.ms_cell.specs.GateAnswers.{CloseAnswer}
use Rattle.class_group.specs.Turns.{place_for}
use Rattle.lane_passes.specs.Lanes.{LaneEvent, Ground, Acted}
use Rattle.lane_passes.specs.Turns.{AtGate, AtMetaslab, AtClass, Then}
use Rattle.lane_passes.specs.declared.passes.LanePasses.{LanePasses}
use Rattle.pool_keeper.specs.Lines.{SyncNoted}
use Rattle.pool_keeper.specs.Notes.{KeeperNoted, keeper_right}
use Rattle.pool_keeper.specs.declared.faults.SyncFault.{SyncFault}
use Rattle.pool_keeper.specs.declared.faults.SyncFault.TheVariants.{Suspended, Busy, Memory}
use Rattle.pool_keeper.specs.declared.lane_keeper.LaneKeeper.{LaneKeeper}

-- a metaslab's weight was seen, and posted where its free space is in memory
pub data IsWeighedOnce (lane : ℕ) (id : MsId) (g : Ground) (es : List LaneEvent) : Type 0 where
  not_loaded : (counts : Counts) (weight : ℕ) → AtMetaslab (number_of g.vdevs id) (IsSight counts weight false) g es → IsWeighedOnce lane id g es
  loaded : (counts : Counts) (weight : ℕ) → Then (AtMetaslab (number_of g.vdevs id) (IsSight counts weight true)) (AtClass (place_for g.vdevs id.vdev) (λ s added. added ≡ Some (lane, Weigh id weight))) g es
      → IsWeighedOnce lane id g es

-- those of the first few metaslabs, by number
pub data AreWeighed (lane : ℕ) (g : Ground) : ℕ → List LaneEvent → Type 0 where
  none : AreWeighed lane g 0 []
  more : (number : ℕ) (id : MsId) (es fs : List LaneEvent) → AreWeighed lane g number es → IsIn g.vdevs id → number_of g.vdevs id ≡ number → IsWeighedOnce lane id g fs
      → AreWeighed lane g (number + 1) (es ++ fs)

-- memory ran out at the next one: it was seen and not posted
pub record AreWeighedInPart (lane : ℕ) (g : Ground) (es : List LaneEvent) : Type 0 where
  pub few : ℕ
  pub id : MsId
  pub inside : IsIn g.vdevs id
  pub place : number_of g.vdevs id ≡ few
  pub counts : Counts
  pub weight : ℕ
  pub turns : Then (λ x fs. AreWeighed lane x few fs) (Then (AtMetaslab (number_of g.vdevs id) (IsSight counts weight true)) (AtClass (place_for g.vdevs id.vdev) (λ s added. added ≡ None))) g es

-- a group of the lane's closing: its turn at the keeper, and the weights behind it
pub data ClosedLine (lane : ℕ) (group : Group) (g : Ground) (t : Step KeeperNoted) : Result Group SyncFault → List LaneEvent → Type 0 where
  done : (es : List LaneEvent) → SyncNoted lane (Ok group) t.before t.note → AreWeighed lane g (metaslabs_in g.vdevs) es → ClosedLine lane group g t (Ok group) es
  in_part : (es : List LaneEvent) → SyncNoted lane (Ok group) t.before t.note → AreWeighedInPart lane g es → ClosedLine lane group g t (Err Memory) es
  failed : (fault : SyncFault) → SyncNoted lane (Err fault) t.before t.note → ClosedLine lane group g t (Err fault) []

-- the open group was closed, or there was no memory to; a second time it may stand too far ahead
pub data TryLine (lane : ℕ) (again : Bool) (g : Ground) : Result Group SyncFault → List LaneEvent → List (Step KeeperNoted) → Type 0 where
  closed : (group : Group) (result : Result Group SyncFault) (one two : List LaneEvent) (t : Step KeeperNoted) → AtGate (CloseAnswer g.opened lane (Ok group)) g one → ClosedLine lane group g t result two
      → TryLine lane again g result (one ++ two) (t ∷ [])
  no_memory : (es : List LaneEvent) → AtGate (CloseAnswer g.opened lane (Err CloseMemory)) g es → TryLine lane again g (Err Memory) es []
  busy : (many : TooMany) (es : List LaneEvent) → again ≡ true → AtGate (CloseAnswer g.opened lane (Err (Many many))) g es → TryLine lane again g (Err (Busy many.open_group many.synced)) es []

-- what a sync did at the gate, the metaslabs and the classes, and its turns at the keeper, of which the first hears of the lane
-- and notes nothing
pub data SyncLine (lane : ℕ) (g : Ground) : Result Group SyncFault → List LaneEvent → List (Step KeeperNoted) → Type 0 where
  suspended : (first : First) (s : Step KeeperNoted) → SyncNoted lane (Err (Suspended first)) s.before s.note → SyncLine lane g (Err (Suspended first)) [] (s ∷ [])
  at_once : (result : Result Group SyncFault) (es : List LaneEvent) (s : Step KeeperNoted) (steps : List (Step KeeperNoted)) → s.note ≡ None → TryLine lane false g result es steps
      → SyncLine lane g result es (s ∷ steps)
  -- the open group stood too far ahead, and the one before it is committed
  behind : (group : Group) (many : TooMany) (result : Result Group SyncFault) (one two : List LaneEvent) (s t : Step KeeperNoted) (steps : List (Step KeeperNoted)) → s.note ≡ None
      → AtGate (CloseAnswer g.opened lane (Err (Many many))) g one → group.0 + 1 ≡ many.open_group.0 → SyncNoted lane (Ok group) t.before t.note → TryLine lane true g result two steps
      → SyncLine lane g result (one ++ two) (s ∷ t ∷ steps)
  -- or that one was not committed
  cut : (many : TooMany) (fault : SyncFault) (es : List LaneEvent) (s t : Step KeeperNoted) → s.note ≡ None → AtGate (CloseAnswer g.opened lane (Err (Many many))) g es
      → SyncNoted lane (Err fault) t.before t.note → SyncLine lane g (Err fault) es (s ∷ t ∷ [])

module _ {D R : Type 0} where
  -- the whole: the lane's events and its steps in the keeper's journal; as a loader the keeper's part stays as it was
  pub record SyncDid (t : Turns) (lane : ℕ) (result : Result Group SyncFault) (p q : LanePasses R) (a b : LaneKeeper D R) : Type 0 where
    pub steps : List (Step KeeperNoted)
    pub acted : Acted t (λ g es. SyncLine lane g result es steps) p q
    pub went : Went keeper_right lane steps a.pass b.pass
    pub turn : b.turn.now ≡ a.turn.now
    pub lane_is : b.lane ≡ a.lane
    pub count : b.refusals ≡ a.refusals
    pub last : b.last ≡ a.last
