-- When the replies of a lane are backed by what it did: each command's part of the lane's events, and of its steps in the
-- keeper's journal, is as the command's answer says, and the parts are all that the lane did.
use Rattle.std.specs.Prelude.{◌≡◌, ℕ, ◌+◌, ◌≤◌, Option, Some, None, List, [], ◌∷◌, ◌++◌, map, Result, Ok, Err}
use Rattle.zms_units.specs.declared.blocks.Dva.{Dva}
use Rattle.zms_units.specs.declared.blocks.Block.{Block}
use Rattle.zms_units.specs.declared.places.Class.{Class}
use Rattle.zms_units.specs.declared.places.MsId.{MsId}
use Rattle.zms_units.specs.declared.segments.Group.{Group}
use Rattle.vdev_map.specs.Numbers.{IsIn, number_of, metaslabs_in}
use Rattle.turn_cell.specs.Notes.{IsPrefix}
use Rattle.turn_cell.specs.Lanes.{Step}
use Rattle.ms_model.specs.Gates.{synced_group}
use Rattle.ms_model.specs.Origin.{Origin}
use Rattle.ms_model.specs.Units.{is_loaded, settled_group}
use Rattle.ms_model.specs.declared.notes.Noted.{Noted}
use Rattle.ms_model.specs.declared.notes.GateNote.{GateNote}
use Rattle.ms_cell.specs.declared.loader.LoadFault.{LoadFault}
use Rattle.lane_passes.specs.Lanes.{LaneEvent, Ground}
use Rattle.lane_passes.specs.Turns.{AtGate, AtMetaslab, Nothing, Then}
use Rattle.pool_alloc.specs.Allocs.{AllocLine}
use Rattle.pool_alloc.specs.Frees.{Place, place_of, FreeLine}
use Rattle.pool_alloc.specs.Loads.{of_result, load_of_alloc, load_of_free}
use Rattle.pool_alloc.specs.declared.answers.AllocFault.{AllocFault}
use Rattle.pool_alloc.specs.declared.answers.FreeFault.{FreeFault}
use Rattle.pool_keeper.specs.Lines.{LoadNoted}
use Rattle.pool_keeper.specs.Notes.{KeeperNoted}
use Rattle.pool_keeper.specs.Syncs.{SyncLine}
use Rattle.pool_keeper.specs.declared.faults.SyncFault.{SyncFault}
use Rattle.cmd_text.specs.declared.script.What.{What}
use Rattle.cmd_text.specs.declared.script.What.TheVariants.{Alloc, Free, FreeSeg, Sync, Load}
use Rattle.lane_run.specs.Answers.{Replied, copies_named, alloc_answer, free_answer, sync_answer, load_answer, load_of, is_done}
use Rattle.lane_run.specs.declared.replies.Answer.{Answer}
use Rattle.lane_run.specs.declared.replies.Answer.TheVariants.{NoName, NoSuch}

-- the load refusal that an answer tells of is the lane's one step in the keeper's journal; where it tells of none there is no step
pub data LoadSteps (lane : ℕ) : Option LoadFault → List (Step KeeperNoted) → Type 0 where
  none : LoadSteps lane None []
  refused : (fault : LoadFault) (s : Step KeeperNoted) → LoadNoted lane (Err fault) s.before s.note → LoadSteps lane (Some fault) (s ∷ [])

-- an alloc
pub record IsAlloc (lane size : ℕ) (class : Class) (copies : ℕ) (answer : Answer) (g : Ground) (es : List LaneEvent) (ks : List (Step KeeperNoted)) : Type 0 where
  pub result : Result Block AllocFault
  pub told : alloc_answer result ≡ Some answer
  pub line : AllocLine lane size class copies result g es
  pub loads : LoadSteps lane (of_result load_of_alloc result) ks

-- a free of places in their order
pub record IsFree (lane : ℕ) (places : List Place) (answer : Answer) (g : Ground) (es : List LaneEvent) (ks : List (Step KeeperNoted)) : Type 0 where
  pub result : Result Group FreeFault
  pub told : free_answer result ≡ Some answer
  pub line : FreeLine lane places result g es
  pub loads : LoadSteps lane (of_result load_of_free result) ks

-- a free of what the lane was granted under a name; without such a grant nothing is done
abbrev pub FreeNamed : ℕ → Option (List Dva) → Answer → Ground → List LaneEvent → List (Step KeeperNoted) → Type 0
FreeNamed lane (Some copies) answer g es ks = IsFree lane (map place_of copies) answer g es ks
FreeNamed lane None answer g es ks = (answer ≡ NoName) × (Nothing g es × (ks ≡ []))

-- at a look the journal has a beginning in which the group is settled
pub record HasSettledAt (group : ℕ) (o : Origin) (h : List Noted) : Type 0 where
  pub beginning : List Noted
  pub begins : IsPrefix beginning h
  pub settled : group ≤ settled_group o beginning

pub record HasSynced (group opened : ℕ) (h : List GateNote) : Type 0 where
  pub beginning : List GateNote
  pub begins : IsPrefix beginning h
  pub settled : group ≤ synced_group opened beginning

-- the first few metaslabs, by number, were seen with the group settled
pub data AreSeenSettled (group : ℕ) (g : Ground) : ℕ → List LaneEvent → Type 0 where
  none : AreSeenSettled group g 0 []
  more : (number : ℕ) (es fs : List LaneEvent) → AreSeenSettled group g number es → AtMetaslab number (λ o h note. (note ≡ None) × HasSettledAt group o h) g fs
      → AreSeenSettled group g (number + 1) (es ++ fs)

-- behind a sync that was done each metaslab and the gate were seen with the group settled
abbrev pub SeenLine : Result Group SyncFault → Ground → List LaneEvent → Type 0
SeenLine (Ok group) g es = Then (λ g es. AreSeenSettled group.0 g (metaslabs_in g.vdevs) es) (λ g. AtGate (λ h note. (note ≡ None) × HasSynced group.0 g.opened h) g) g es
SeenLine (Err _) g es = Nothing g es

-- a sync
pub record IsSync (lane : ℕ) (answer : Answer) (g : Ground) (es : List LaneEvent) (ks : List (Step KeeperNoted)) : Type 0 where
  pub result : Result Group SyncFault
  pub told : sync_answer result ≡ Some answer
  pub turns : Then (λ g es. SyncLine lane g result es ks) (SeenLine result) g es

-- a load: the vdevs have no such metaslab, and nothing was done; or it was seen behind the load, loaded or not
pub data IsLoad (lane : ℕ) (id : MsId) (g : Ground) : Answer → List LaneEvent → List (Step KeeperNoted) → Type 0 where
  no_such : (IsIn g.vdevs id → ⊥) → IsLoad lane id g NoSuch [] []
  tried : (result : Result (Unit {0}) LoadFault) (answer : Answer) (es : List LaneEvent) (ks : List (Step KeeperNoted)) → load_answer result ≡ Some answer → IsIn g.vdevs id
      → AtMetaslab (number_of g.vdevs id) (λ o h note. (note ≡ None) × (is_loaded h ≡ is_done result)) g es → LoadSteps lane (of_result load_of result) ks → IsLoad lane id g answer es ks

-- the line of one command, behind the replies of the commands before it
abbrev pub WhatLine : ℕ → List Replied → What → Answer → Ground → List LaneEvent → List (Step KeeperNoted) → Type 0
WhatLine lane done (Alloc _ size class copies) answer g es ks = IsAlloc lane size class copies answer g es ks
WhatLine lane done (Free name) answer g es ks = FreeNamed lane (copies_named name done) answer g es ks
WhatLine lane done (FreeSeg vdev offset size) answer g es ks = IsFree lane (record { vdev = vdev; offset = offset; size = size } ∷ []) answer g es ks
WhatLine lane done Sync answer g es ks = IsSync lane answer g es ks
WhatLine lane done (Load vdev index) answer g es ks = IsLoad lane (record { vdev = vdev; index = index }) g answer es ks
WhatLine lane done _ answer g es ks = ⊥

pub record Line (lane : ℕ) (done : List Replied) (r : Replied) (g : Ground) (es : List LaneEvent) (ks : List (Step KeeperNoted)) : Type 0 where
  pub command : r.command.lane ≡ lane
  pub reply : r.reply.lane ≡ lane
  pub what : WhatLine lane done r.command.what r.reply.answer g es ks

-- the lines of all commands, one behind the other
pub data Lines (lane : ℕ) (g : Ground) : List Replied → List LaneEvent → List (Step KeeperNoted) → Type 0 where
  none : Lines lane g [] [] []
  more : (done : List Replied) (r : Replied) (es fs : List LaneEvent) (ks ls : List (Step KeeperNoted))
      → Lines lane g done es ks → Line lane done r g fs ls → Lines lane g (done ++ r ∷ []) (es ++ fs) (ks ++ ls)
