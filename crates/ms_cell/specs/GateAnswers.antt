-- What a call at the gate answers and notes, by the journal that its turn found.
use Rattle.std.specs.Prelude.{◌≡◌, ◌↔◌, ℕ, ◌+◌, ◌^◌, ◌<◌, ◌≤◌, Bool, IsTrue, Option, Some, None, List, Result, Ok, Err}
use Rattle.zms_units.specs.declared.segments.Group.{Group}
use Rattle.turn_cell.specs.Notes.{IsPrefix}
use Rattle.ms_model.specs.Gates.{open_group, synced_group, MayPass}
use Rattle.ms_model.specs.declared.notes.GateNote.{GateNote}
use Rattle.ms_model.specs.declared.notes.GateNote.TheVariants.{Closed, Settled}
use Rattle.txg_gate.specs.GateState.{GateState, IsQuiesced}
use Rattle.txg_gate.specs.declared.gate.TooMany.{TooMany}
use Rattle.ms_cell.specs.declared.answers.CloseFault.{CloseFault}
use Rattle.ms_cell.specs.declared.answers.CloseFault.TheVariants.{TooMany as Many, Memory}

-- the open group is the third above the settled one
pub record AreTooMany (opened : ℕ) (many : TooMany) (h : List GateNote) : Type 0 where
  pub third : open_group opened h ≡ synced_group opened h + 3
  pub open_is : many.open_group.0 ≡ open_group opened h
  pub synced_is : many.synced.0 ≡ synced_group opened h

abbrev pub CloseAnswer : ℕ → ℕ → Result Group CloseFault → List GateNote → Option GateNote → Type 0
CloseAnswer opened lane (Ok group) h added = (added ≡ Some (Closed lane group)) × MayPass opened h (Closed lane group)
CloseAnswer opened lane (Err (Many many)) h added = (added ≡ None) × AreTooMany opened many h
CloseAnswer opened lane (Err Memory) h added = added ≡ None

abbrev pub SettledAnswer : ℕ → Group → List GateNote → Option GateNote → Type 0
SettledAnswer opened group h added = (added ≡ Some (Settled group)) × MayPass opened h (Settled group)

-- the group was closed already in some beginning of this journal
pub record IsClosedBefore (opened group : ℕ) (h : List GateNote) : Type 0 where
  pub before : List GateNote
  pub begins : IsPrefix before h
  pub closed : group < open_group opened before

-- of a gate with this journal, whose holds stand in no journal: they decide of the closed groups that are not settled alone
pub record QuiescedAnswer (opened : ℕ) (group : Group) (quiesced : Bool) (h : List GateNote) (note : Option GateNote) : Type 0 where
  pub quiet : note ≡ None
  pub gate : GateState
  pub opened_is : gate.opened ≡ opened
  pub notes : gate.notes ≡ h
  pub answer : IsTrue quiesced ↔ IsQuiesced gate group.0
  pub closed : IsTrue quiesced → group.0 < open_group opened h
  pub small : IsTrue quiesced → group.0 + 1 < 2 ^ 50
  pub settled : group.0 ≤ synced_group opened h → IsTrue quiesced
