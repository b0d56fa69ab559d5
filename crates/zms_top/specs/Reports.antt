-- What is handed over and printed when the lanes are done.
use Rattle.std.specs.Prelude.{◌≡◌, ◌⊎◌, ℕ, Option, Some, Result, List, [], ◌∷◌, replicate}
use Rattle.zms_units.specs.Segments.{covered}
use Rattle.zms_units.specs.declared.segments.Group.{Group}
use Rattle.zms_units.specs.declared.places.Class.TheVariants.{Normal}
use Rattle.ms_model.specs.Legal.{IsLegal}
use Rattle.zms_units.specs.Runs.{units_in}
use Rattle.ms_model.specs.Counts.{live_units, deferred_units, vacant_units}
use Rattle.std.specs.List.{All}
use Rattle.ms_model.specs.Parts.{HaveLanes, IsByLane}
use Rattle.ms_model.specs.Gates.{IsGateLegal}
use Rattle.ms_model.specs.declared.journals.MsJournal.{MsJournal}
use Rattle.ms_model.specs.declared.journals.Journals.{Journals}
use Rattle.ms_core.specs.State.{origin_of, settled_of}
use Rattle.zms_dev.specs.declared.failed.Failed.{Failed}
use Rattle.zms_top.specs.Answers.{Replied}
use Rattle.zms_dev.specs.Prints.{HandsOn}
use Rattle.zms_dev.specs.Stream.{SinkState}
use Rattle.zms_top.specs.Writes.{WritesBoth}
use Rattle.trace_text.specs.Traces.{metaslab_trace_text}
use Rattle.zms_top.specs.Texts.{run_text}
use Rattle.zms_top.specs.Ends.{any_device, first_damage, end_status, AreShipped, IsCutOff, IsUnrewound, LanesDid, LanesEnd}
use Rattle.ms_model.specs.Units.{settled_group}
use Rattle.zms_dev.specs.Disk.{DiskState, Tells, bytes_of}
use Rattle.zms_dev.specs.Runs.{LeavesOnly, Spares}
use Rattle.vdev_map.specs.declared.layout.Layout.{Layout}
use Rattle.vdev_map.specs.declared.table.Table.{Table}
use Rattle.meta_store.specs.Groups.{Finds}
use Rattle.meta_store.specs.Rewinds.{Adds}
use Rattle.meta_store.specs.Stores.{Opens}
use Rattle.meta_store.specs.declared.causes.At.{At}
use Rattle.cmd_text.specs.declared.script.Command.{Command}
use Rattle.zms_top.specs.World.{World}
use Rattle.zms_top.specs.Stored.{Remembers, opened_contents, IsBeside, IsWhole}
use Rattle.zms_top.specs.Pools.{IsRemembered}
use Rattle.zms_top.specs.declared.pool.Pool.{Pool}
use Rattle.zms_top.specs.declared.tally.Tally.{Tally}
use Rattle.zms_top.specs.declared.replies.Reply.{Reply}
use Rattle.zms_top.specs.declared.status.RunLists.{RunLists}
use Rattle.zms_top.specs.declared.status.Status.{Status}

-- the pool's journals are handed over, with the replies
pub record HandsOver (p : Pool) (replies : List Reply) (journals : Journals) (lists : RunLists) : Type 0 where
  pub journal : MsJournal
  pub opened : journals.opened.0 ≡ p.gate.opened
  pub only : journals.metaslabs ≡ journal ∷ []
  pub no_class : journals.classes ≡ []
  pub no_keeper : journals.keeper ≡ []
  pub id : journal.id ≡ p.metaslab.id
  pub units : journal.units ≡ p.metaslab.units
  pub ashift : journal.ashift ≡ p.metaslab.ashift
  pub held : journal.held ≡ units_in (covered p.metaslab.base) p.metaslab.units
  pub notes : journal.notes ≡ p.metaslab.notes
  pub legal : IsLegal (origin_of p.metaslab) p.metaslab.notes
  pub replies_are : lists.replies ≡ replies
  pub gate : lists.gate ≡ p.gate.notes
  pub gate_legal : IsGateLegal p.gate.opened p.gate.notes
  pub lanes : HaveLanes p.metaslab.notes
  pub gate_lanes : All IsByLane p.gate.notes
  pub device_notes : lists.device_notes ≡ replicate 16 []

-- the totals of the pool's metaslab
pub record IsTally (p : Pool) (tally : Tally) : Type 0 where
  pub id : tally.id ≡ p.metaslab.id
  pub class : tally.class ≡ Normal
  pub ashift : tally.ashift ≡ p.metaslab.ashift
  pub live : tally.live ≡ live_units (origin_of p.metaslab) p.metaslab.notes
  pub deferred : tally.deferred ≡ deferred_units (origin_of p.metaslab) p.metaslab.notes
  pub vacant : tally.vacant ≡ vacant_units (origin_of p.metaslab) p.metaslab.notes

-- the replies and totals are printed
pub record IsPrinted (p : Pool) (done : List Replied) (out out_now : SinkState) (printed : Result (Unit {0}) Failed) : Type 0 where
  pub tally : Tally
  pub tally_is : IsTally p tally
  pub group : Group
  pub group_is : group.0 ≡ settled_of p.metaslab
  pub prints : HandsOn out out_now (run_text done (tally ∷ []) group.0) printed

-- lanes that ran to their end are reported: their journals and lists are handed over, the texts are written, and the status
-- says how the lanes ended
pub record IsReported (p : Pool) (done : List Replied) (replies : List Reply) (out out_now trace trace_now : SinkState) (status : Status) (journals : Option Journals) (lists : Option RunLists) : Type 0 where
  pub some_journals : Journals
  pub some_lists : RunLists
  pub journals_are : journals ≡ Some some_journals
  pub lists_are : lists ≡ Some some_lists
  pub handed : HandsOver p replies some_journals some_lists
  pub tally : Tally
  pub tally_is : IsTally p tally
  pub group : Group
  pub group_is : group.0 ≡ settled_of p.metaslab
  pub written : Result (Unit {0}) Failed
  pub writes : WritesBoth out out_now trace trace_now (run_text done (tally ∷ []) group.0) (metaslab_trace_text some_journals) written
  pub status_is : status ≡ end_status (any_device replies) (first_damage replies) written

-- a pool's journals are handed over, where there is something to hand over
pub record HasHandedOver (p : Pool) (replies : List Reply) (journals : Option Journals) (lists : Option RunLists) : Type 0 where
  pub some_journals : Journals
  pub some_lists : RunLists
  pub journals_are : journals ≡ Some some_journals
  pub lists_are : lists ≡ Some some_lists
  pub handed : HandsOver p replies some_journals some_lists

-- lanes that ran over a pool as it was opened: what they hand back, how they ended, and what each stop leaves of a device that
-- was at rest
pub record LanesLeave (p : Pool) (layout : Layout) (table : Table) (commands : List Command) (old new : World) (status : Status) (journals : Option Journals) (lists : Option RunLists) : Type 0 where
  pub journal : MsJournal
  pub some_journals : Journals
  pub some_lists : RunLists
  pub journals_are : journals ≡ Some some_journals
  pub lists_are : lists ≡ Some some_lists
  pub shipped : AreShipped (origin_of p.metaslab) some_journals some_lists journal
  pub end : IsCutOff old new some_lists status
      ⊎ LanesDid (IsRemembered p layout table old.disk) commands old new (origin_of p.metaslab) journal some_journals some_lists status
  pub run : IsRemembered p layout table old.disk → LeavesOnly old.disk new.disk (Remembers layout (origin_of p.metaslab) journal.notes (origin_of p.metaslab).opened)
  pub left : IsRemembered p layout table old.disk → (c : List ℕ) → new.disk.may_leave c
      → Remembers layout (origin_of p.metaslab) journal.notes (settled_group (origin_of p.metaslab) journal.notes) c
  pub spares : Tells old.disk → Spares (IsBeside layout) old.disk new.disk
  pub flushes : Tells old.disk → Adds old.disk new.disk

-- a device that is whole, and opens at what is asked for with this layout and table, where it finds what the pool's metaslab
-- held
pub record IsOpenedWhole (at : At) (p : Pool) (layout : Layout) (table : Table) (disk : DiskState) : Type 0 where
  pub whole : IsWhole disk at
  pub opens : Opens (bytes_of disk) at layout table
  pub base : Finds (bytes_of disk) p.metaslab.opened (opened_contents layout (origin_of p.metaslab))

-- the ways in which a run ends whose pool was opened
abbrev pub OpenedEnds : At → List Command → Pool → Layout → Table → World → World → Status → Option Journals → Option RunLists → Type 0
OpenedEnds at commands p layout table old new status journals lists =
    IsUnrewound (IsOpenedWhole at p layout table old.disk) at old new status journals lists
    ⊎ LanesEnd (IsOpenedWhole at p layout table old.disk) at commands old new layout (origin_of p.metaslab) status journals lists
