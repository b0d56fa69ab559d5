-- Facts of events: one turn, and one after the other.
use Rattle.std.specs.Prelude.{◌≡◌, ℕ, Option, List, [], ◌∷◌, ◌++◌}
use Rattle.ms_model.specs.Origin.{Origin}
use Rattle.ms_model.specs.Events.{at_gate, at_metaslab}
use Rattle.ms_model.specs.declared.notes.Noted.{Noted}
use Rattle.ms_model.specs.declared.notes.GateNote.{GateNote}
use Rattle.class_model.specs.Replay.{LaneNote}
use Rattle.class_core.specs.Classes.{ClassState}
use Rattle.lane_passes.specs.Lanes.{LaneEvent, at_cell, at_class, Ground, origin_at, class_origin_at}

-- one turn at the gate: the journal that it found, what it noted there, and of both what it answers
pub record AtGate (Answer : List GateNote → Option GateNote → Type 0) (g : Ground) (es : List LaneEvent) : Type 0 where
  pub before : List GateNote
  pub note : Option GateNote
  pub is : es ≡ at_cell (at_gate (record { before = before; note = note })) ∷ []
  pub answer : Answer before note

-- one turn at the metaslab of a number
pub record AtMetaslab (number : ℕ) (Answer : Origin → List Noted → Option Noted → Type 0) (g : Ground) (es : List LaneEvent) : Type 0 where
  pub before : List Noted
  pub note : Option Noted
  pub is : es ≡ at_cell (at_metaslab number (record { before = before; note = note })) ∷ []
  pub answer : Answer (origin_at g number) before note

-- one turn at the class of a place
pub record AtClass (place : ℕ) (Answer : ClassState → Option LaneNote → Type 0) (g : Ground) (es : List LaneEvent) : Type 0 where
  pub before : List LaneNote
  pub note : Option LaneNote
  pub is : es ≡ at_class (record { place = place; step = record { before = before; note = note } }) ∷ []
  pub answer : Answer (record { origin = class_origin_at g place; notes = before }) note

-- nothing was done
abbrev pub Nothing : Ground → List LaneEvent → Type 0
Nothing g es = es ≡ []

-- as one fact says, and then as another
pub record Then (First Second : Ground → List LaneEvent → Type 0) (g : Ground) (es : List LaneEvent) : Type 0 where
  pub one : List LaneEvent
  pub two : List LaneEvent
  pub whole : es ≡ one ++ two
  pub first : First g one
  pub second : Second g two
