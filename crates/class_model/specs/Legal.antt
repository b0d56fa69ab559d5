-- When the journal of a class is legal.
use Rattle.std.specs.Prelude.{◌≡◌, ℕ, ◌-◌, ◌%◌, List, ◌∷◌, ◌++◌}
use Rattle.zms_units.specs.Limits.{IsLane}
use Rattle.ms_model.specs.declared.notes.ClassNote.{ClassNote}
use Rattle.ms_model.specs.declared.notes.ClassNote.TheVariants.{Pick, Granted, Missed, Weigh}
use Rattle.class_model.specs.Replay.{LaneNote, IsVdevOf, IsIn}
use Rattle.class_model.specs.Picks.{IsAnswer}
use Rattle.class_model.specs.declared.origin.ClassOrigin.{ClassOrigin}

-- the allocator of a lane, one of four
abbrev pub allocator_of : ℕ → ℕ
allocator_of lane = (lane - 1) % 4

-- a pick is of the lane's allocator, on a vdev of the class, and has its answer; other notes are of a metaslab of the class
abbrev pub MayNote : ClassOrigin → List LaneNote → ℕ → ClassNote → Type 0
MayNote o h lane (Pick allocator kind vdev bytes start got) =
    (allocator ≡ allocator_of lane) × (IsVdevOf o vdev × IsAnswer o h vdev (record { allocator = allocator; kind = kind }) bytes start got)
MayNote o h lane (Granted id bytes weight) = IsIn o id
MayNote o h lane (Missed id weight) = IsIn o id
MayNote o h lane (Weigh id weight) = IsIn o id

-- a note of a lane may follow those before it
abbrev pub MayFollow : ClassOrigin → List LaneNote → LaneNote → Type 0
MayFollow o h n = IsLane n.0 × MayNote o h n.0 n.1

-- each note may follow those before it
abbrev pub IsClassLegal : ClassOrigin → List LaneNote → Type 0
IsClassLegal o h = (before : List LaneNote) (n : LaneNote) (rest : List LaneNote) → before ++ (n ∷ rest) ≡ h → MayFollow o before n
