-- Which numbers the types of journals hold.
use Rattle.std.specs.Prelude.{ℕ, ◌^◌, ◌<◌, Option, Some, None}
use Rattle.std.specs.List.{All}
use Rattle.zms_units.specs.declared.places.MsId.{MsId}
use Rattle.zms_units.specs.declared.segments.Group.{Group}
use Rattle.zms_units.specs.declared.segments.Seg.{Seg}
use Rattle.ms_model.specs.declared.journals.ClassJournal.{ClassJournal}
use Rattle.ms_model.specs.declared.journals.Journals.{Journals}
use Rattle.ms_model.specs.declared.journals.MsJournal.{MsJournal}
use Rattle.ms_model.specs.declared.notes.Act.{Act}
use Rattle.ms_model.specs.declared.notes.Act.TheVariants.{Grant, Free, Unalloc, Miss, Shut, Collect, Settle, Load, Unload, Disable, Work, Enable}
use Rattle.ms_model.specs.declared.notes.ClassNote.{ClassNote}
use Rattle.ms_model.specs.declared.notes.ClassNote.TheVariants.{Pick, Granted, Missed, Weigh}
use Rattle.ms_model.specs.declared.notes.Got.{Got}
use Rattle.ms_model.specs.declared.notes.KeeperNote.{KeeperNote}
use Rattle.ms_model.specs.declared.notes.KeeperNote.TheVariants.{Sync, Fault, Damaged}
use Rattle.ms_model.specs.declared.notes.Noted.{Noted}
use Rattle.ms_model.specs.declared.notes.Start.{Start}
use Rattle.ms_model.specs.declared.notes.Start.TheVariants.{Active, Top, After}

-- a number that its type holds: at most 64 bits
abbrev pub Held : ℕ → Type 0
Held n = n < 2 ^ 64

abbrev pub IdHeld : MsId → Type 0
IdHeld id = Held id.vdev × Held id.index

abbrev pub SegHeld : Group → Seg → Type 0
SegHeld group seg = Held group.0 × Held seg.start × Held seg.count

abbrev pub WorkHeld : ℕ → Seg → Type 0
WorkHeld worker seg = Held worker × Held seg.start × Held seg.count

-- the numbers of a note are such as their types hold
abbrev pub ActHeld : Act → Type 0
ActHeld (Grant group seg) = SegHeld group seg
ActHeld (Free group seg) = SegHeld group seg
ActHeld (Unalloc group seg) = SegHeld group seg
ActHeld (Miss count) = Held count
ActHeld Shut = Unit {0}
ActHeld (Collect group) = Held group.0
ActHeld (Settle group) = Held group.0
ActHeld Load = Unit {0}
ActHeld Unload = Unit {0}
ActHeld (Disable worker) = Held worker
ActHeld (Work worker _ seg) = WorkHeld worker seg
ActHeld (Enable worker) = Held worker

abbrev pub NoteHeld : Noted → Type 0
NoteHeld note = Held note.lane × ActHeld note.act

-- the same of a metaslab's journal
pub record MetaslabHeld (ms : MsJournal) : Type 0 where
  pub id : IdHeld ms.id
  pub units : Held ms.units
  pub ashift : Held ms.ashift
  pub held : Held ms.held
  pub notes : All NoteHeld ms.notes

abbrev pub StartHeld : Start → Type 0
StartHeld Active = Unit {0}
StartHeld Top = Unit {0}
StartHeld (After weight index) = Held weight × Held index

abbrev pub GotHeld : Option Got → Type 0
GotHeld None = Unit {0}
GotHeld (Some got) = Held got.index × Held got.weight

-- the same of a class's note
abbrev pub ClassNoteHeld : ClassNote → Type 0
ClassNoteHeld (Pick allocator _ vdev bytes start got) = Held allocator × Held vdev × Held bytes × StartHeld start × GotHeld got
ClassNoteHeld (Granted id bytes weight) = IdHeld id × Held bytes × Held weight
ClassNoteHeld (Missed id weight) = IdHeld id × Held weight
ClassNoteHeld (Weigh id weight) = IdHeld id × Held weight

abbrev pub LaneClassNoteHeld : ℕ × ClassNote → Type 0
LaneClassNoteHeld note = Held note.0 × ClassNoteHeld note.1

abbrev pub ClassHeld : ClassJournal → Type 0
ClassHeld class = All LaneClassNoteHeld class.notes

-- the same of a note of the keeper
abbrev pub KeeperNoteHeld : KeeperNote → Type 0
KeeperNoteHeld (Sync group) = Held group.0
KeeperNoteHeld (Fault before after) = Held before × Held after
KeeperNoteHeld (Damaged id) = IdHeld id

abbrev pub LaneKeeperNoteHeld : ℕ × KeeperNote → Type 0
LaneKeeperNoteHeld note = Held note.0 × KeeperNoteHeld note.1

-- the same of all that a trace without classes and keeper prints
pub record MetaslabsHeld (j : Journals) : Type 0 where
  pub opened : Held j.opened.0
  pub metaslabs : All MetaslabHeld j.metaslabs

-- the same of all that a trace prints
pub record JournalsHeld (j : Journals) : Type 0 where
  pub metaslabs : MetaslabsHeld j
  pub classes : All ClassHeld j.classes
  pub keeper : All LaneKeeperNoteHeld j.keeper
