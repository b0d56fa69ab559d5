-- What a run of lanes leaves: the closed journals, the replies that they back, and the device.
use Rattle.std.specs.Prelude.{◌≡◌, ℕ, ◌≤◌, Option, Some, None, IfOk, List, [], map, length, slice_get}
use Rattle.std.specs.List.{All}
use Rattle.zms_units.specs.Runs.{units_in as units_of_set}
use Rattle.zms_units.specs.Segments.{covered}
use Rattle.zms_units.specs.declared.faults.First.{First}
use Rattle.zms_units.specs.declared.segments.Group.{Group}
use Rattle.zms_units.specs.declared.segments.Seg.{Seg}
use Rattle.zms_dev.specs.Disk.{DiskState}
use Rattle.vdev_map.specs.Numbers.{metaslabs_in}
use Rattle.vdev_map.specs.declared.table.Table.{Table}
use Rattle.turn_cell.specs.Lanes.{Step, Follows}
use Rattle.turn_passes.specs.Pairs.{Each}
use Rattle.ms_model.specs.Counts.{live_units, deferred_units, vacant_units}
use Rattle.ms_model.specs.Gates.{IsGateLegal}
use Rattle.ms_model.specs.declared.notes.Noted.{Noted}
use Rattle.ms_model.specs.declared.journals.ClassJournal.{ClassJournal}
use Rattle.ms_model.specs.declared.journals.MsJournal.{MsJournal}
use Rattle.ms_model.specs.declared.journals.Journals.{Journals}
use Rattle.class_model.specs.Legal.{IsClassLegal}
use Rattle.class_model.specs.declared.origin.ClassOrigin.{ClassOrigin}
use Rattle.txg_gate.specs.GateState.{GateState}
use Rattle.ms_core.specs.State.{MsState, origin_of}
use Rattle.ms_core.specs.Standing.{standing_of}
use Rattle.ms_core.specs.declared.faults.Counts.{Counts}
use Rattle.ms_cell.specs.Turns.{StandsAt}
use Rattle.ms_cell.specs.Closed.{IsLawful}
use Rattle.ms_cell.specs.Journals.{InJournals, NeedAtMost}
use Rattle.class_group.specs.Turns.{StandsAt as ClassStandsAt, place_of}
use Rattle.class_group.specs.Journals.{EachJournal, InJournals as InClassJournals, NeedAtMost as NeedAtMostInClasses}
use Rattle.lane_passes.specs.Lanes.{LaneEvent, Ground, cell_events, class_steps, origin_at, class_origin_at}
use Rattle.meta_store.specs.Stores.{StoreState}
use Rattle.pool_keeper.specs.History.{History}
use Rattle.pool_keeper.specs.Images.{IsReady, IsHeldBy}
use Rattle.pool_keeper.specs.Keeper.{unwritten}
use Rattle.pool_keeper.specs.Notes.{KeeperNoted, keeper_right, AreNoted, IsCounted}
use Rattle.cmd_text.specs.declared.script.Command.{Command}
use Rattle.cmd_text.specs.declared.script.Script.{Script}
use Rattle.lane_run.specs.Answers.{Replied, paired}
use Rattle.lane_run.specs.Lines.{Lines}
use Rattle.lane_run.specs.Runs.{IsRun, commands_of}
use Rattle.lane_run.specs.declared.replies.Reply.{Reply}
use Rattle.pool_seats.specs.Bases.{AreFirstWeights}
use Rattle.pool_lanes.specs.Merging.{replies_of}
use Rattle.pool_lanes.specs.declared.lanes.Lanes.{Lanes}

-- a command of one of the lanes, of a kind that lanes run
pub record IsCommandWithin (lanes : ℕ) (c : Command) : Type 0 where
  pub least : 1 ≤ c.lane
  pub most : c.lane ≤ lanes
  pub what : IsRun c.what

-- a closed pool: the gate, the metaslabs, the journals of the classes and of the keeper, and what each class was as it was opened
pub record Ended : Type 0 where
  pub gate : GateState
  pub metaslabs : List MsState
  pub classes : List ClassJournal
  pub keeper : List KeeperNoted
  pub origins : List (Option ClassOrigin)

abbrev pub notes_of : Option MsState → List Noted
notes_of None = []
notes_of (Some m) = m.notes

-- one journal and one base, of one metaslab
pub record IsJournalOf (m : MsState) (j : MsJournal) : Type 0 where
  pub id : j.id ≡ m.id
  pub units : j.units ≡ m.units
  pub ashift : j.ashift ≡ m.ashift
  pub held : j.held ≡ units_of_set (covered m.base) m.units
  pub notes : j.notes ≡ m.notes

-- how many units are live, deferred and vacant by the journal
pub record IsCountOf (m : MsState) (c : Counts) : Type 0 where
  pub live : c.live ≡ live_units (origin_of m) m.notes
  pub deferred : c.deferred ≡ deferred_units (origin_of m) m.notes
  pub vacant : c.vacant ≡ vacant_units (origin_of m) m.notes

-- the journals are legal, and each note has a lane
pub record AreLegal (e : Ended) : Type 0 where
  pub gate : IsGateLegal e.gate.opened e.gate.notes
  pub metaslabs : (k : ℕ) (m : MsState) → slice_get e.metaslabs k ≡ Some m → IsLawful m
  pub classes : EachJournal (λ k j. IsClassLegal (class_origin_at (record { vdevs = []; opened = 0; metaslabs = []; classes = e.origins }) k) j.notes × (place_of j.class ≡ k)) e.classes

-- each note is of one of so many lanes, but for the kinds that are the keeper's
pub record AreWithin (lanes : ℕ) (e : Ended) : Type 0 where
  pub cells : NeedAtMost lanes e.gate e.metaslabs
  pub classes : NeedAtMostInClasses lanes e.classes
  pub keeper : All (λ (n : KeeperNoted). (1 ≤ n.0) × (n.0 ≤ lanes)) e.keeper

-- the replies of a lane are backed by the closed journals: all that the lane did is the parts of its commands, in order, each
-- as its line says
pub record IsBacked (lane : ℕ) (g : Ground) (done : List Replied) (e : Ended) : Type 0 where
  pub events : List LaneEvent
  pub steps : List (Step KeeperNoted)
  pub lines : Lines lane g done events steps
  pub cells : InJournals lane (cell_events events) e.gate e.metaslabs
  pub classes : InClassJournals lane (class_steps events) e.classes
  pub keeper : Follows keeper_right lane [] steps e.keeper

-- one reply a command, of its lane, and those of each lane are backed
pub record AreBacked (lanes : ℕ) (g : Ground) (commands : List Command) (e : Ended) (replies : List Reply) : Type 0 where
  pub lanes_are : map (λ (r : Reply). r.lane) replies ≡ map (λ (c : Command). c.lane) commands
  pub each : (lane : ℕ) → 1 ≤ lane → lane ≤ lanes → IsBacked lane g (paired (commands_of lane commands) (replies_of lane replies)) e

module _ {D : Type 0} where
  -- what lanes stood on
  abbrev pub ground_in : StoreState D → Ended → Ground
  ground_in store e = record {
    vdevs = store.layout.vdevs;
    opened = store.table.group.0;
    metaslabs = map (λ (m : MsState). Some (standing_of m)) e.metaslabs;
    classes = e.origins;
  }

  -- the pool with its closed journals
  abbrev pub history_in : StoreState D → Ended → History
  history_in store e = record {
    layout = store.layout;
    opened = store.table.group.0;
    origin = origin_at (ground_in store e);
    journal = λ k. notes_of (slice_get e.metaslabs k);
  }

  -- the pool is the store's: each metaslab with its base, and each class with the first weights
  pub record IsOfStore (store : StoreState D) (bases : List (List Seg)) (e : Ended) : Type 0 where
    pub opened : e.gate.opened ≡ store.table.group.0
    pub count : length e.metaslabs ≡ metaslabs_in store.layout.vdevs
    pub stand : (k : ℕ) (m : MsState) → slice_get e.metaslabs k ≡ Some m → StandsAt store.layout.vdevs store.table.group.0 k (standing_of m)
    pub bases_are : Each (λ k base (m : MsState). m.base ≡ base) bases e.metaslabs
    pub weights : List ℕ
    pub first : AreFirstWeights store.layout.vdevs store.table weights
    pub four : length e.classes ≡ 4
    pub classes : EachJournal (λ k j. ClassStandsAt store.layout.vdevs weights k (class_origin_at (ground_in store e) k)) e.classes

  -- what is handed out is this
  pub record AreTold (opened : Group) (e : Ended) (j : Journals) (out : Lanes D) : Type 0 where
    pub opened_is : j.opened ≡ opened
    pub metaslabs : Each (λ k m c. IsJournalOf m c) e.metaslabs j.metaslabs
    pub count : length j.metaslabs ≡ length e.metaslabs
    pub classes : j.classes ≡ e.classes
    pub keeper : j.keeper ≡ e.keeper
    pub gate : out.gate.items ≡ e.gate.notes
    pub totals : Each (λ k m c. IsCountOf m c) e.metaslabs out.totals.items
    pub total_count : length out.totals.items ≡ length e.metaslabs

  module _ (state : D → DiskState) (faults : D → ℕ) where
    -- the keeper's journal, the last committed group, and the device: wherever it was stopped since the run began, each group
    -- that can be opened finds what the closed journals say that it holds
    pub record IsKept (store : StoreState D) (e : Ended) (group : Group) (meta : D) : Type 0 where
      pub first : Option First
      pub table : Table
      pub group_is : table.group ≡ group
      pub noted : AreNoted group.0 first e.keeper
      pub counts : IsCounted (faults store.disk) (faults meta) first
      pub device : IsReady (record (history_in store e) { journal = unwritten }) store.table (state store.disk)
          → IsHeldBy (history_in store e) group.0 first table (state store.disk) (state meta)

    -- the lanes have run
    pub record HaveRun (store : StoreState D) (bases : List (List Seg)) (script : Script) (j : Journals) (out : Lanes D) : Type 0 where
      pub ended : Ended
      pub ground : IsOfStore store bases ended
      pub told : AreTold store.table.group ended j out
      pub legal : AreLegal ended
      pub within : AreWithin script.lanes ended
      pub kept : IsKept store ended out.group out.meta
      pub replies : IfOk out.replies (λ replies. AreBacked script.lanes (ground_in store ended) script.commands ended replies.items)

  -- no lane has begun, for want of memory
  pub record IsUnbegun (store : StoreState D) (out : Lanes D) : Type 0 where
    pub gate : out.gate.items ≡ []
    pub totals : out.totals.items ≡ []
    pub group : out.group ≡ store.table.group
    pub meta : out.meta ≡ store.disk
