-- What a call at a class answers and notes, by what the class was when its pool was opened and the journal that the call's
-- turn found. Want of memory is the one free answer, and notes nothing.
use Rattle.std.specs.Prelude.{◌≡◌, ℕ, Option, Some, None, Result, Ok, Err}
use Rattle.ms_model.specs.declared.notes.ClassNote.{ClassNote}
use Rattle.ms_model.specs.declared.notes.ClassNote.TheVariants.{Pick}
use Rattle.ms_model.specs.declared.notes.Kind.{Kind}
use Rattle.ms_model.specs.declared.notes.Start.{Start}
use Rattle.class_model.specs.Replay.{LaneNote}
use Rattle.class_model.specs.Legal.{allocator_of}
use Rattle.class_core.specs.Classes.{ClassState, IsBegin, IsPicked, got_of}
use Rattle.class_core.specs.declared.picked.Picked.{Picked}

-- the rotor's vdev, and nothing is noted
pub record BeginAnswer (vdev : Option ℕ) (s : ClassState) (added : Option LaneNote) : Type 0 where
  pub quiet : added ≡ None
  pub answer : IsBegin s vdev

-- the rule's answer, noted with the lane's allocator
pub record IsNotedPick (lane : ℕ) (kind : Kind) (vdev bytes : ℕ) (start : Start) (picked : Option Picked) (s : ClassState) (added : Option LaneNote) : Type 0 where
  pub noted : added ≡ Some (lane, Pick (allocator_of lane) kind vdev bytes start (got_of picked))
  pub answer : IsPicked s lane kind vdev bytes start picked

abbrev pub PickAnswer : {E : Type 0} → ℕ → Kind → ℕ → ℕ → Start → Result (Option Picked) E → ClassState → Option LaneNote → Type 0
PickAnswer lane kind vdev bytes start (Ok picked) s added = IsNotedPick lane kind vdev bytes start picked s added
PickAnswer lane kind vdev bytes start (Err _) s added = added ≡ None

-- what is posted is noted, whatever the class was
abbrev pub PostAnswer : {E : Type 0} → ℕ → ClassNote → Result (Unit {0}) E → ClassState → Option LaneNote → Type 0
PostAnswer lane note (Ok _) s added = added ≡ Some (lane, note)
PostAnswer lane note (Err _) s added = added ≡ None
