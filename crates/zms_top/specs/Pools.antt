-- A pool between two commands, its store, and what a command does to them.
use Rattle.std.specs.Prelude.{◌≡◌, ℕ, ◌+◌, ◌≤◌, None, Some, List, [], ◌∷◌, ◌++◌}
use Rattle.zms_units.specs.Limits.{MAX_UNITS}
use Rattle.zms_units.specs.Runs.{units_in, AreMaximalRuns}
use Rattle.zms_units.specs.declared.segments.Group.{Group}
use Rattle.zms_units.specs.declared.faults.Damage.{Damage}
use Rattle.zms_units.specs.declared.faults.First.TheVariants.{Device as FirstDevice, Damaged as FirstDamaged}
use Rattle.zms_units.specs.declared.places.MsId.{MsId}
use Rattle.zms_units.specs.Segments.{AreSegs}
use Rattle.ms_model.specs.Units.{held, settled_group}
use Rattle.ms_model.specs.Legal.{IsLegal}
use Rattle.ms_model.specs.Gains.{is_gained, is_given}
use Rattle.ms_model.specs.Gates.{open_group}
use Rattle.ms_model.specs.declared.notes.Act.TheVariants.{Collect, Settle}
use Rattle.ms_model.specs.declared.notes.GateNote.TheVariants.{Closed, Settled}
use Rattle.txg_gate.specs.Closings.{closings_of}
use Rattle.zms_dev.specs.Causes.{one_more}
use Rattle.zms_dev.specs.Disk.{DiskState, Tells}
use Rattle.zms_dev.specs.Runs.{LeavesOnly}
use Rattle.vdev_map.specs.declared.layout.Batch.{Batch}
use Rattle.vdev_map.specs.declared.layout.Layout.{Layout}
use Rattle.vdev_map.specs.declared.table.Table.{Table}
use Rattle.meta_store.specs.Stores.{IsAtRest}
use Rattle.meta_store.specs.Words.{row_of}
use Rattle.ms_model.specs.Events.{Event}
use Rattle.ms_core.specs.State.{origin_of, settled_of, collected_of, StaysButNotes}
use Rattle.zms_top.specs.Sound.{first_id, IsSound, Grows, Tour}
use Rattle.zms_top.specs.Stored.{IsSingle, Remembers}
use Rattle.zms_top.specs.declared.replies.Answer.{Answer}
use Rattle.zms_top.specs.declared.replies.Answer.TheVariants.{Done, Device, Damaged}
use Rattle.zms_top.specs.declared.pool.Pool.{Pool}

-- a pool's parts fit one another
pub record IsPool (p : Pool) : Type 0 where
  pub least_units : 64 ≤ p.metaslab.units
  pub most_units : p.metaslab.units ≤ MAX_UNITS
  pub shift : p.metaslab.ashift ≡ 12
  pub opened : p.gate.opened ≡ p.metaslab.opened
  pub base_is : p.base.items ≡ p.metaslab.base
  pub segs : AreSegs p.metaslab.units p.metaslab.base
  pub sound : IsSound (origin_of p.metaslab) p.metaslab.notes p.gate.notes p.first

-- a store is the pool's, whatever its device does: it has the last settled group, and counts the units that this group holds
pub record IsStoreOf (p : Pool) (layout : Layout) (table : Table) : Type 0 where
  pub single : IsSingle layout p.metaslab.units
  pub vdevs : table.vdevs ≡ layout.vdevs
  pub group : table.group.0 ≡ settled_of p.metaslab
  pub count : (row_of table first_id).held ≡ units_in (held (origin_of p.metaslab) p.metaslab.notes (settled_of p.metaslab)) p.metaslab.units

-- each image that a stop may leave remembers, with at least the last settled group; and while no fault is kept the device is
-- at rest
pub record IsRemembered (p : Pool) (layout : Layout) (table : Table) (disk : DiskState) : Type 0 where
  pub tells : Tells disk
  pub rests : p.first ≡ None → IsAtRest disk layout table
  pub left : (c : List ℕ) → disk.may_leave c → Remembers layout (origin_of p.metaslab) p.metaslab.notes (settled_of p.metaslab) c

-- so it is after a run that took one pool to another, and each image at every moment of the run remembers
pub record StaysRemembered (p q : Pool) (layout : Layout) (table : Table) (old new : DiskState) : Type 0 where
  pub run : LeavesOnly old new (Remembers layout (origin_of p.metaslab) q.metaslab.notes (origin_of p.metaslab).opened)
  pub now : IsRemembered q layout table new

-- a command of a lane took a pool from one state to another, and what the lane did is as the command's line says
pub record Acted (p q : Pool) (lane : ℕ) (line : List Event → List Event → Type 0) : Type 0 where
  pub events : List Event
  pub kept : List Event
  pub tour : Tour lane events kept p.metaslab.notes q.metaslab.notes p.gate.notes q.gate.notes
  pub line_is : line events kept
  pub pool : IsPool q
  pub stays : StaysButNotes p.metaslab q.metaslab
  pub rises : closings_of lane q.gate.notes ≤ closings_of lane p.gate.notes + 1

-- what is settled stays as it was
pub record LeavesSettled (p q : Pool) : Type 0 where
  pub group : settled_group (origin_of p.metaslab) q.metaslab.notes ≡ settled_of p.metaslab
  pub grows : Grows (origin_of p.metaslab) p.metaslab.notes q.metaslab.notes

-- the open group is closed and collected, and the batch has what it changed
pub record IsClosed (p q : Pool) (lane : ℕ) (group : Group) (batch : Batch) : Type 0 where
  pub is_open : group.0 ≡ open_group p.gate.opened p.gate.notes
  pub gate : q.gate ≡ record p.gate { notes = p.gate.notes ++ (Closed lane group ∷ []); room = q.gate.room }
  pub notes : q.metaslab.notes ≡ p.metaslab.notes ++ (record { lane = lane; act = Collect group } ∷ [])
  pub stays : StaysButNotes p.metaslab q.metaslab
  pub id : batch.id ≡ first_id
  pub allocs : AreMaximalRuns (is_gained group.0 p.metaslab.notes) p.metaslab.units batch.allocs
  pub frees : AreMaximalRuns (is_given group.0 p.metaslab.notes) p.metaslab.units batch.frees
  pub base : q.base ≡ p.base
  pub first : q.first ≡ p.first

-- the group is the next after the store's, it is collected, and the batch has what it changed
pub record IsDue (p : Pool) (layout : Layout) (table : Table) (group : Group) (batch : Batch) : Type 0 where
  pub store : IsStoreOf p layout table
  pub legal : IsLegal (origin_of p.metaslab) p.metaslab.notes
  pub next : group.0 ≡ settled_of p.metaslab + 1
  pub collected : collected_of p.metaslab ≡ group.0
  pub idle : p.first ≡ None
  pub id : batch.id ≡ first_id
  pub allocs : AreMaximalRuns (is_gained group.0 p.metaslab.notes) p.metaslab.units batch.allocs
  pub frees : AreMaximalRuns (is_given group.0 p.metaslab.notes) p.metaslab.units batch.frees

-- the closed group is settled; or the device failed, or damage was read, and that is kept
pub data IsCommitted (p q : Pool) (lane : ℕ) (group : Group) (faults_before faults_now : ℕ) (answer : Answer) : Type 0 where
  settled : answer ≡ Done group
      → q.gate ≡ record p.gate { notes = p.gate.notes ++ (Settled group ∷ []); counts = q.gate.counts; room = q.gate.room }
      → q.metaslab.notes ≡ p.metaslab.notes ++ (record { lane = lane; act = Settle group } ∷ [])
      → StaysButNotes p.metaslab q.metaslab → q.first ≡ p.first → q.base ≡ p.base
      → faults_now ≡ faults_before → IsCommitted p q lane group faults_before faults_now answer
  failed : answer ≡ Device faults_before faults_now → faults_now ≡ one_more faults_before
      → q.gate ≡ p.gate → q.metaslab ≡ p.metaslab → q.first ≡ Some (FirstDevice faults_before faults_now) → q.base ≡ p.base
      → IsCommitted p q lane group faults_before faults_now answer
  damaged : (id : MsId) (damage : Damage) → answer ≡ Damaged id damage → faults_now ≡ faults_before
      → q.gate ≡ p.gate → q.metaslab ≡ p.metaslab → q.first ≡ Some (FirstDamaged id damage) → q.base ≡ p.base
      → IsCommitted p q lane group faults_before faults_now answer
