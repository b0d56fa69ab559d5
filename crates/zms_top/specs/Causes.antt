-- The table of causes: what each status of a call says of its objects.
use Rattle.std.specs.Prelude.{◌≡◌, ℕ, ◌⊎◌, Option, IsSome, List}
use Rattle.zms_units.specs.declared.places.VdevRow.{VdevRow}
use Rattle.zms_units.specs.declared.segments.Group.{Group}
use Rattle.zms_dev.specs.Causes.{Rose}
use Rattle.zms_dev.specs.Disk.{DiskState, Tells, bytes_of}
use Rattle.zms_top.specs.World.{World}
use Rattle.zms_top.specs.Words.{Asks, AsksNothing}
use Rattle.zms_top.specs.Script.{IsFile, IsFirstBad}
use Rattle.vdev_map.specs.declared.layout.Layout.{Layout}
use Rattle.vdev_map.specs.declared.table.Table.{Table}
use Rattle.uber_ring.specs.Slots.{HasNone}
use Rattle.meta_store.specs.Causes.{Shows}
use Rattle.meta_store.specs.Groups.{HasNewest}
use Rattle.meta_store.specs.Stores.{Opens}
use Rattle.meta_store.specs.declared.causes.At.{At}
use Rattle.meta_store.specs.declared.causes.OpenCause.{OpenCause}
use Rattle.zms_top.specs.Stored.{IsSingle, IsWhole}
use Rattle.zms_top.specs.Ends.{text_of, HasOtherLayout, IsOrigin}
use Rattle.ms_model.specs.Origin.{Origin}
use Rattle.cmd_text.specs.declared.script.Command.{Command}
use Rattle.zms_top.specs.declared.words.Asked.TheVariants.{Create, Run, Report}
use Rattle.zms_top.specs.declared.status.Status.{Status}
use Rattle.zms_top.specs.declared.status.Status.TheVariants.{Done, Usage, BadText, ReadFault, WriteFault, DeviceFault, NotAPool, Memory}
use Rattle.zms_top.specs.declared.status.PoolCause.TheVariants.{Open, OtherLayout, AlreadyPool}
use Rattle.meta_store.specs.declared.causes.OpenCause.TheVariants.{MapDamaged}

-- the source's text, where it is told, is a file of commands
abbrev pub HasFile : Option (List ℕ) → Type 0
HasFile left = (commands : List Command) × (IsSome left → IsFile (text_of left) commands)

-- the device's bytes, where they are told, open at what is asked for, with a layout over which lanes run
pub record HasPool (start : DiskState) (at : At) : Type 0 where
  pub layout : Layout
  pub opened : Origin
  pub is : IsOrigin at start layout opened

-- damage of a metaslab's words
abbrev pub IsDamage : OpenCause → Type 0
IsDamage (MapDamaged id damage) = Unit {0}
IsDamage _ = ⊥

-- why a call ends with its status
pub data Cause (words : List (List ℕ)) (old new : World) : Status → Type 0 where
  -- the words are outside the grammar
  usage : AsksNothing words → Cause words old new Usage
  -- the source failed
  read_fault : (at : At) → Asks words (Run at) → Rose old.input.faults new.input.faults → Cause words old new ReadFault
  -- a line of the text is bad, and none before it
  bad_text : (at : At) → Asks words (Run at) → (line : ℕ) → (IsSome old.input.left → IsFirstBad (text_of old.input.left) line) → Cause words old new (BadText line)
  -- the device failed
  device_fault : Rose old.faults new.faults → Cause words old new DeviceFault
  -- the sink failed
  write_fault : Rose old.out.faults new.out.faults → Cause words old new WriteFault
  -- the trace's sink failed
  trace_fault : (at : At) → Asks words (Run at) → Rose old.trace.faults new.trace.faults → Cause words old new WriteFault
  -- a run over a device that shows why it does not open
  unopened : (at : At) → Asks words (Run at) → HasFile old.input.left → (cause : OpenCause) → (Tells old.disk → Shows (bytes_of old.disk) at cause) → Cause words old new (NotAPool (Open cause))
  -- a run over a pool over which lanes don't run
  other_layout : (at : At) → Asks words (Run at) → HasFile old.input.left → (Tells old.disk → HasOtherLayout (bytes_of old.disk) at) → Cause words old new (NotAPool OtherLayout)
  -- a run whose sync read damage, which comes of no device that is whole
  damaged : (at : At) → Asks words (Run at) → HasFile old.input.left → (cause : OpenCause) → IsDamage cause → (IsWhole old.disk at → ⊥) → Cause words old new (NotAPool (Open cause))
  -- a report over a device that shows why it does not open
  unreported : (at : At) → Asks words (Report at) → (cause : OpenCause) → (Tells old.disk → Shows (bytes_of old.disk) at cause) → Cause words old new (NotAPool (Open cause))
  -- a creation over a device with a pool, whose newest group is told
  already : (vdevs : List VdevRow) → Asks words (Create vdevs) → (group : Group) → (Tells old.disk → HasNewest (bytes_of old.disk) group.0) → Cause words old new (NotAPool (AlreadyPool group))
  -- a run to its end
  ran : (at : At) → Asks words (Run at) → HasFile old.input.left → HasPool old.disk at → Cause words old new Done
  -- a report of a device that opens
  reported : (at : At) → Asks words (Report at) → (layout : Layout) (table : Table) → (Tells old.disk → Opens (bytes_of old.disk) at layout table) → Cause words old new Done
  -- a pool that was created
  created : (vdevs : List VdevRow) → Asks words (Create vdevs) → (Tells old.disk → HasNone (bytes_of old.disk)) → Cause words old new Done
  -- want of memory, of which nothing is said
  memory : Cause words old new Memory

-- a run that nothing stands in the way of: a told file of commands, a device that is whole and opens at what is asked for
-- with a layout over which lanes run, and no fault
pub record IsHonestRun (words : List (List ℕ)) (old new : World) : Type 0 where
  pub at : At
  pub asks : Asks words (Run at)
  pub told_text : IsSome old.input.left
  pub commands : List Command
  pub file : IsFile (text_of old.input.left) commands
  pub whole : IsWhole old.disk at
  pub layout : Layout
  pub table : Table
  pub units : ℕ
  pub single : IsSingle layout units
  pub vdevs : table.vdevs ≡ layout.vdevs
  pub opens : Opens (bytes_of old.disk) at layout table
  pub source : Rose old.input.faults new.input.faults → ⊥
  pub sink : Rose old.out.faults new.out.faults → ⊥
  pub trace : Rose old.trace.faults new.trace.faults → ⊥
  pub device : Rose old.faults new.faults → ⊥

-- a report that nothing stands in the way of: a device that tells and opens at what is asked for, with whatever layout, and
-- no fault
pub record IsHonestReport (words : List (List ℕ)) (old new : World) : Type 0 where
  pub at : At
  pub asks : Asks words (Report at)
  pub tells : Tells old.disk
  pub layout : Layout
  pub table : Table
  pub opens : Opens (bytes_of old.disk) at layout table
  pub sink : Rose old.out.faults new.out.faults → ⊥
  pub device : Rose old.faults new.faults → ⊥

-- a creation that nothing stands in the way of: a device that tells and has no valid slot, and no fault
pub record IsHonestCreate (words : List (List ℕ)) (old new : World) : Type 0 where
  pub vdevs : List VdevRow
  pub asks : Asks words (Create vdevs)
  pub tells : Tells old.disk
  pub none : HasNone (bytes_of old.disk)
  pub sink : Rose old.out.faults new.out.faults → ⊥
  pub device : Rose old.faults new.faults → ⊥

-- the call did what it was asked for, or memory ran out
abbrev pub IsDone : Status → Type 0
IsDone status = (status ≡ Done) ⊎ (status ≡ Memory)
