-- A metaslab as contracts see it.
use Rattle.std.specs.Prelude.{◌≡◌, ℕ, ◌≤◌, List}
use Rattle.std.specs.List.{All}
use Rattle.zms_units.specs.declared.places.MsId.{MsId}
use Rattle.zms_units.specs.declared.segments.Seg.{Seg}
use Rattle.zms_units.specs.Limits.{IsLane}
use Rattle.zms_units.specs.Segments.{covered}
use Rattle.ms_model.specs.Origin.{Origin}
use Rattle.ms_model.specs.Units.{settled_group, collected_group}
pub use Rattle.ms_model.specs.Units.{noted}
use Rattle.ms_model.specs.declared.notes.Noted.{Noted}

-- the memory that is taken: for how many notes in all, for how many nodes of its trees, and for how many runs of its base
pub record Memory : Type 0 where
  pub notes : ℕ
  pub nodes : ℕ
  pub base : ℕ

-- its name, its units and their shift, the group that was opened, the runs that this group held, the journal since, for how
-- many further actions memory is taken, and how much in all
pub record MsState : Type 0 where
  pub id : MsId
  pub units : ℕ
  pub ashift : ℕ
  pub opened : ℕ
  pub base : List Seg
  pub notes : List Noted
  pub room : ℕ
  pub memory : Memory

-- what it was when its pool was opened
abbrev pub origin_of : MsState → Origin
origin_of m = record { units = m.units; ashift = m.ashift; opened = m.opened; base = covered m.base }

-- the groups that were settled and collected last, and whether free space is in memory
abbrev pub settled_of : MsState → ℕ
settled_of m = settled_group (origin_of m) m.notes

abbrev pub collected_of : MsState → ℕ
collected_of m = collected_group (origin_of m) m.notes

-- each note is of a lane
abbrev pub AreOfLanes : List Noted → Type 0
AreOfLanes notes = All (λ (note : Noted). IsLane note.lane) notes

-- nothing but the journal and what memory is taken changed
abbrev pub StaysButNotes : MsState → MsState → Type 0
StaysButNotes old new = new ≡ record old { notes = new.notes; room = new.room; memory = new.memory }

-- nothing but what memory is taken changed
abbrev pub StaysButRoom : MsState → MsState → Type 0
StaysButRoom old new = new ≡ record old { room = new.room; memory = new.memory }

-- no memory was given away, and more was taken for notes and nodes alone
pub record HasMore (old new : MsState) : Type 0 where
  pub notes : old.memory.notes ≤ new.memory.notes
  pub nodes : old.memory.nodes ≤ new.memory.nodes
  pub base : new.memory.base ≡ old.memory.base
