-- How a call ends: each way, with its cause.
use Rattle.std.specs.Prelude.{◌≡◌, ℕ, ◌<◌, ◌≤◌, Bool, true, false, ◌⊎◌, Option, Some, None, IsSome, Result, Ok, Err, List, [], ◌∷◌, length, take, drop, replicate}
use Rattle.std.specs.List.{All, list_any}
use Rattle.zms_units.specs.Limits.{GROUPS_END}
use Rattle.zms_units.specs.declared.segments.Group.{Group}
use Rattle.zms_units.specs.declared.places.Class.TheVariants.{Normal}
use Rattle.ms_model.specs.Events.{Event}
use Rattle.ms_model.specs.Origin.{Origin}
use Rattle.ms_model.specs.Units.{settled_group}
use Rattle.ms_model.specs.Legal.{IsLegal}
use Rattle.zms_units.specs.Runs.{units_in}
use Rattle.ms_model.specs.Counts.{live_units, deferred_units, vacant_units}
use Rattle.ms_model.specs.Parts.{HaveLanes, IsByLane}
use Rattle.ms_model.specs.Gates.{synced_group, IsGateLegal}
use Rattle.ms_model.specs.declared.journals.MsJournal.{MsJournal}
use Rattle.ms_model.specs.declared.journals.Journals.{Journals}
use Rattle.zms_dev.specs.Causes.{one_more}
use Rattle.zms_dev.specs.Disk.{DiskState, Tells, bytes_of}
use Rattle.zms_dev.specs.Runs.{Spares, Untouched}
use Rattle.zms_dev.specs.Stream.{SourceState, told}
use Rattle.zms_dev.specs.declared.failed.Failed.{Failed}
use Rattle.zms_top.specs.Script.{IsFile, IsFirstBad}
use Rattle.zms_top.specs.Answers.{paired, last_synced}
use Rattle.zms_top.specs.Texts.{run_text}
use Rattle.trace_text.specs.Traces.{metaslab_trace_text}
use Rattle.zms_top.specs.World.{World}
use Rattle.zms_top.specs.Writes.{WritesBoth}
use Rattle.zms_top.specs.Lines.{AreBacked, AreKept, AreIntervals}
use Rattle.zms_top.specs.Sound.{first_id, shape_of}
use Rattle.zms_top.specs.Stored.{IsSingle, opened_contents, IsOpenedAs, IsBeside, IsWhole, IsAskedAlways, IsAtEveryStop}
use Rattle.zms_top.specs.Runs.{answers_of}
use Rattle.zms_top.specs.declared.tally.Tally.{Tally}
use Rattle.cmd_text.specs.declared.script.Command.{Command}
use Rattle.zms_top.specs.declared.replies.Answer.{Answer}
use Rattle.zms_top.specs.declared.replies.Reply.{Reply}
use Rattle.zms_top.specs.declared.replies.Answer.TheVariants.{Device, Damaged}
use Rattle.zms_top.specs.declared.status.Status.{Status}
use Rattle.zms_top.specs.declared.status.Status.TheVariants.{Done, BadText, ReadFault, WriteFault, DeviceFault, NotAPool, Memory}
use Rattle.zms_top.specs.declared.status.PoolCause.TheVariants.{Open, OtherLayout}
use Rattle.vdev_map.specs.declared.layout.Layout.{Layout}
use Rattle.vdev_map.specs.declared.table.Table.{Table}
use Rattle.meta_store.specs.Causes.{Shows}
use Rattle.meta_store.specs.Groups.{Finds}
use Rattle.meta_store.specs.Rewinds.{IsNoGate}
use Rattle.meta_store.specs.Stores.{Opens}
use Rattle.meta_store.specs.declared.causes.At.{At}
use Rattle.meta_store.specs.declared.causes.OpenCause.{OpenCause}
use Rattle.meta_store.specs.declared.causes.OpenCause.TheVariants.{MapDamaged}
use Rattle.zms_top.specs.declared.status.RunLists.{RunLists}

-- the text of a command file, as far as it is read: one byte more than the limit shows that there is more
abbrev pub text_of : Option (List ℕ) → List ℕ
text_of left = take 16777217 (told left)

-- the text was read to its end, or one byte past the limit, by calls none of which failed
pub record IsRead (old new : SourceState) : Type 0 where
  pub rest : IsSome old.left → told new.left ≡ drop 16777217 (told old.left)
  pub steady : new.faults ≡ old.faults

-- why a command file was not read: a call of the source failed, a line is bad, or memory ran out
abbrev pub IsReadEnd : SourceState → SourceState → Status → Type 0
IsReadEnd old new ReadFault = new.faults ≡ one_more old.faults
IsReadEnd old new (BadText line) = (IsSome old.left → IsFirstBad (text_of old.left) line) × IsRead old new
IsReadEnd old new Memory = new.faults ≡ old.faults
IsReadEnd old new _ = ⊥

-- a status that says why a command file was not read
abbrev pub IsOfText : Status → Type 0
IsOfText ReadFault = Unit {0}
IsOfText (BadText line) = Unit {0}
IsOfText _ = ⊥

-- the image opens at what is asked for, with another layout than lanes run over
pub record HasOtherLayout (image : List ℕ) (at : At) : Type 0 where
  pub layout : Layout
  pub table : Table
  pub vdevs : table.vdevs ≡ layout.vdevs
  pub opens : Opens image at layout table
  pub other : (units : ℕ) → IsSingle layout units → ⊥

-- why a pool was not opened: a call of the device failed, it shows a cause, lanes don't run over its layout, or memory ran out
abbrev pub IsOpenEnd : At → DiskState → ℕ → ℕ → Status → Type 0
IsOpenEnd at start low high DeviceFault = high ≡ one_more low
IsOpenEnd at start low high (NotAPool (Open cause)) = (Tells start → Shows (bytes_of start) at cause) × (high ≡ low)
IsOpenEnd at start low high (NotAPool OtherLayout) = (Tells start → HasOtherLayout (bytes_of start) at) × (high ≡ low)
IsOpenEnd at start low high Memory = high ≡ low
IsOpenEnd at start low high _ = ⊥

abbrev pub is_device : Answer → Bool
is_device (Device _ _) = true
is_device _ = false

-- is some reply `device`?
abbrev pub any_device : List Reply → Bool
any_device replies = list_any (λ r. is_device r.answer) replies

-- the damage that an answer names
abbrev pub damage_in : Answer → Option OpenCause
damage_in (Damaged id damage) = Some (MapDamaged id damage)
damage_in _ = None

-- the one that is named first
abbrev pub first_of : Option OpenCause → Option OpenCause → Option OpenCause
first_of (Some cause) _ = Some cause
first_of None rest = rest

-- the damage of the first reply that names any
abbrev pub first_damage : List Reply → Option OpenCause
first_damage [] = None
first_damage (r ∷ rs) = first_of (damage_in r.answer) (first_damage rs)

-- the metaslab as its pool was opened: the device opens at what is asked for, with this layout, and what the metaslab held
-- then is what that group finds
pub record IsOrigin (at : At) (start : DiskState) (layout : Layout) (o : Origin) : Type 0 where
  pub shift : o.ashift ≡ 12
  pub single : IsSingle layout o.units
  pub early : o.opened < GROUPS_END
  pub opens : Tells start → IsOpenedAs (bytes_of start) at layout o
  pub base : Tells start → Finds (bytes_of start) o.opened (opened_contents layout o)

-- what a run of one metaslab hands back: the metaslab's journal is a legal history on its base, and the gate's is legal too
pub record AreShipped (o : Origin) (journals : Journals) (lists : RunLists) (journal : MsJournal) : Type 0 where
  pub opened : journals.opened.0 ≡ o.opened
  pub only : journals.metaslabs ≡ journal ∷ []
  pub no_class : journals.classes ≡ []
  pub no_keeper : journals.keeper ≡ []
  pub id : journal.id ≡ first_id
  pub units : journal.units ≡ o.units
  pub ashift : journal.ashift ≡ o.ashift
  pub held : journal.held ≡ units_in o.base o.units
  pub legal : IsLegal o journal.notes
  pub gate_legal : IsGateLegal o.opened lists.gate
  pub lanes : HaveLanes journal.notes
  pub gate_lanes : All IsByLane lists.gate
  pub device_notes : lists.device_notes ≡ replicate 16 []

-- the totals of the one metaslab, by its journal
pub record IsTallyOf (o : Origin) (journal : MsJournal) (tally : Tally) : Type 0 where
  pub id : tally.id ≡ journal.id
  pub class : tally.class ≡ Normal
  pub ashift : tally.ashift ≡ o.ashift
  pub live : tally.live ≡ live_units o journal.notes
  pub deferred : tally.deferred ≡ deferred_units o journal.notes
  pub vacant : tally.vacant ≡ vacant_units o journal.notes

-- the status of texts that were written or not
abbrev pub written_status : {T E : Type 0} → Result T E → Status
written_status (Ok _) = Done
written_status (Err _) = WriteFault

-- the status of lanes that ran: a device fault where a reply names one, else the damage of the first reply that names some,
-- else whether all was written
abbrev pub end_status : {T E : Type 0} → Bool → Option OpenCause → Result T E → Status
end_status true _ _ = DeviceFault
end_status false (Some cause) _ = NotAPool (Open cause)
end_status false None written = written_status written

-- what the lanes leave where memory was there: every command has its reply, the replies are backed by the journals, a lane
-- without commands did nothing, the text of the replies and totals was printed, and then that of the journals. Of a
-- device that is whole nothing damaged is read
pub record LanesDid (whole : Type 0) (commands : List Command) (old new : World) (o : Origin) (journal : MsJournal) (journals : Journals) (lists : RunLists) (status : Status) : Type 0 where
  pub each : length lists.replies ≡ length commands
  pub kept : List Event
  pub backed : AreBacked (shape_of o) 1 (paired commands lists.replies) kept lists.gate (journal.notes ∷ [])
  pub others : (lane : ℕ) → 2 ≤ lane → AreBacked (shape_of o) lane [] [] lists.gate (journal.notes ∷ [])
  pub keeper : AreKept kept lists.gate (journal.notes ∷ [])
  pub settled : synced_group o.opened lists.gate ≡ settled_group o journal.notes
  pub synced : settled_group o journal.notes ≡ last_synced o.opened (paired commands lists.replies)
  pub intervals : AreIntervals old.faults new.faults (answers_of lists.replies)
  pub tally : Tally
  pub tally_is : IsTallyOf o journal tally
  pub group : Group
  pub group_is : group.0 ≡ settled_group o journal.notes
  pub written : Result (Unit {0}) Failed
  pub writes : WritesBoth old.out new.out old.trace new.trace (run_text (paired commands lists.replies) (tally ∷ []) group.0) (metaslab_trace_text journals) written
  pub status_is : status ≡ end_status (any_device lists.replies) (first_damage lists.replies) written
  pub undamaged : whole → first_damage lists.replies ≡ None

-- lanes did not begin: the device was at most read, nothing was written, and nothing is handed back
pub record IsRefused (old new : World) (journals : Option Journals) (lists : Option RunLists) : Type 0 where
  pub device : Tells old.disk → Untouched old.disk new.disk
  pub out : new.out ≡ old.out
  pub trace : new.trace ≡ old.trace
  pub no_journals : journals ≡ None
  pub no_lists : lists ≡ None

-- lanes began, and memory ran out: what they did is in the journals, there are no replies, and nothing is written; the device
-- failed at most once
pub record IsCutOff (old new : World) (lists : RunLists) (status : Status) : Type 0 where
  pub faults : (new.faults ≡ old.faults) ⊎ (new.faults ≡ one_more old.faults)
  pub none : lists.replies ≡ []
  pub status_is : status ≡ Memory
  pub out : new.out ≡ old.out
  pub trace : new.trace ≡ old.trace

-- what lanes that began hand back, how they ended, and what each stop leaves of a device that was whole, in every ending
pub record LanesEnd (whole : Type 0) (at : At) (commands : List Command) (old new : World) (layout : Layout) (o : Origin) (status : Status) (journals : Option Journals) (lists : Option RunLists) : Type 0 where
  pub journal : MsJournal
  pub some_journals : Journals
  pub some_lists : RunLists
  pub journals_are : journals ≡ Some some_journals
  pub lists_are : lists ≡ Some some_lists
  pub shipped : AreShipped o some_journals some_lists journal
  pub end : IsCutOff old new some_lists status ⊎ LanesDid whole commands old new o journal some_journals some_lists status
  pub device : whole → IsAtEveryStop at layout o journal.notes old.disk new.disk
  pub spares : Tells old.disk → Spares (IsBeside layout) old.disk new.disk

-- the pool was opened, and the device failed while the opened group was made the only one: lanes did not begin
pub record IsUnrewound (whole : Type 0) (at : At) (old new : World) (status : Status) (journals : Option Journals) (lists : Option RunLists) : Type 0 where
  pub status_is : status ≡ DeviceFault
  pub failed : new.faults ≡ one_more old.faults
  pub device : whole → IsAskedAlways at old.disk new.disk
  pub spares : Tells old.disk → Spares IsNoGate old.disk new.disk
  pub out : new.out ≡ old.out
  pub trace : new.trace ≡ old.trace
  pub no_journals : journals ≡ None
  pub no_lists : lists ≡ None

-- the ways in which a run ends
pub data RunEnds (at : At) (old new : World) (status : Status) (journals : Option Journals) (lists : Option RunLists) : Type 0 where
  -- the command file was not read, and the device was not touched
  unread : IsReadEnd old.input new.input status → new.faults ≡ old.faults → IsRefused old new journals lists → RunEnds at old new status journals lists
  -- it was read, and the pool was not opened
  unopened : (commands : List Command) → (IsSome old.input.left → IsFile (text_of old.input.left) commands) → IsRead old.input new.input
      → IsOpenEnd at old.disk old.faults new.faults status → IsRefused old new journals lists → RunEnds at old new status journals lists
  -- it was read and the pool opened, and the opened group was not made the only one
  unrewound : (commands : List Command) → (IsSome old.input.left → IsFile (text_of old.input.left) commands) → IsRead old.input new.input
      → (layout : Layout) (o : Origin) → IsOrigin at old.disk layout o → IsUnrewound (IsWhole old.disk at) at old new status journals lists → RunEnds at old new status journals lists
  -- it was read, and lanes ran it over the pool as it was opened
  began : (commands : List Command) → (IsSome old.input.left → IsFile (text_of old.input.left) commands) → IsRead old.input new.input
      → (layout : Layout) (o : Origin) → IsOrigin at old.disk layout o → LanesEnd (IsWhole old.disk at) at commands old new layout o status journals lists → RunEnds at old new status journals lists
