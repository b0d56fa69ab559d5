-- What a call answers by the keeper's journal, and what it notes there.
use Rattle.std.specs.Prelude.{◌≡◌, ℕ, ◌<◌, ◌≤◌, Option, Some, None, Result, Ok, Err, List, length}
use Rattle.zms_units.specs.declared.faults.First.{First}
use Rattle.zms_units.specs.declared.faults.First.TheVariants.{Device as FirstDevice, Damaged as FirstDamaged}
use Rattle.zms_dev.specs.Causes.{Rose}
use Rattle.ms_model.specs.declared.notes.KeeperNote.TheVariants.{Sync, Fault, Damaged as DamagedNote}
use Rattle.zms_units.specs.declared.segments.Group.{Group}
use Rattle.turn_cell.specs.Notes.{IsPrefix}
use Rattle.ms_model.specs.Gates.{synced_group}
use Rattle.ms_model.specs.Units.{settled_group}
use Rattle.ms_model.specs.declared.notes.Noted.{Noted}
use Rattle.ms_model.specs.declared.notes.GateNote.{GateNote}
use Rattle.ms_cell.specs.Turns.{Turns}
use Rattle.ms_cell.specs.Passes.{Passes, origin_in, seen_in}
use Rattle.ms_cell.specs.declared.loader.LoadFault.{LoadFault}
use Rattle.ms_cell.specs.declared.loader.LoadFault.TheVariants.{Suspended, Device, Damaged, Memory}
use Rattle.pool_keeper.specs.declared.faults.SyncFault.{SyncFault}
use Rattle.pool_keeper.specs.declared.faults.SyncFault.TheVariants.{Suspended as SyncSuspended, Busy, Device as SyncDevice, Damaged as SyncDamaged, Memory as SyncMemory}
use Rattle.pool_keeper.specs.Notes.{KeeperNoted, EndsWith}

-- the refusal of a load that met this
abbrev pub load_fault : First → LoadFault
load_fault (FirstDevice before after) = Device before after
load_fault (FirstDamaged id damage) = Damaged id damage

-- what a load of a lane notes, by the journal that it found: a refusal for a fault of before notes nothing, and that fault is the
-- journal's last note; a fault or damage of its own is noted
abbrev pub LoadNoted : ℕ → Result (Unit {0}) LoadFault → List KeeperNoted → Option KeeperNoted → Type 0
LoadNoted lane (Ok _) h note = note ≡ None
LoadNoted lane (Err (Suspended first)) h note = (note ≡ None) × EndsWith first h
LoadNoted lane (Err (Device before after)) h note = (note ≡ Some (lane, Fault before after)) × Rose before after
LoadNoted lane (Err (Damaged id damage)) h note = note ≡ Some (lane, DamagedNote id)
LoadNoted lane (Err Memory) h note = note ≡ None

-- the fault of a sync that met this
abbrev pub sync_fault : First → SyncFault
sync_fault (FirstDevice before after) = SyncDevice before after
sync_fault (FirstDamaged id damage) = SyncDamaged id damage

-- what a sync of a lane notes in the one turn in which it is done, or not: that a group of at least its own is committed; a
-- fault or damage of its own; or nothing
abbrev pub SyncNoted : ℕ → Result Group SyncFault → List KeeperNoted → Option KeeperNoted → Type 0
SyncNoted lane (Ok group) h noted = (synced : Group) × ((noted ≡ Some (lane, Sync synced)) × (group.0 ≤ synced.0))
SyncNoted lane (Err (SyncSuspended first)) h noted = (noted ≡ None) × EndsWith first h
SyncNoted lane (Err (SyncDevice before after)) h noted = (noted ≡ Some (lane, Fault before after)) × Rose before after
SyncNoted lane (Err (SyncDamaged id damage)) h noted = noted ≡ Some (lane, DamagedNote id)
SyncNoted lane (Err (Busy next last)) h noted = ⊥
SyncNoted lane (Err SyncMemory) h noted = noted ≡ None

-- the holder has seen of each metaslab, and of the gate, that a group is settled
pub record HasSettled (t : Turns) (group : ℕ) (p : Passes) : Type 0 where
  pub each : (k : ℕ) → k < length t.metaslabs → (h : List Noted) × (IsPrefix h (seen_in p k) × (group ≤ settled_group (origin_in p k) h))
  pub gate : (h : List GateNote) × (IsPrefix h p.gate.seen × (group ≤ synced_group t.opened h))
