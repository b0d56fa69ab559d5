-- What an allocation does at one metaslab and at its class.
use Rattle.std.specs.Prelude.{◌≡◌, ℕ, Bool, false, Option, Some, None, List, Ok}
use Rattle.zms_units.specs.declared.segments.Seg.{Seg}
use Rattle.zms_units.specs.declared.segments.Group.{Group}
use Rattle.zms_units.specs.declared.places.MsId.{MsId}
use Rattle.zms_units.specs.declared.places.Class.{Class}
use Rattle.vdev_map.specs.Numbers.{number_of}
use Rattle.ms_model.specs.declared.notes.ClassNote.{ClassNote}
use Rattle.ms_model.specs.declared.notes.ClassNote.TheVariants.{Granted as GrantedNote, Missed, Weigh}
use Rattle.ms_model.specs.declared.notes.Kind.{Kind}
use Rattle.ms_core.specs.declared.faults.Counts.{Counts}
use Rattle.ms_cell.specs.Answers.{GrantAnswer, IsNotLoaded, IsLate, IsSight}
use Rattle.ms_cell.specs.declared.answers.Look.TheVariants.{Granted, Miss, Shut}
use Rattle.class_core.specs.Classes.{got_of}
use Rattle.class_core.specs.declared.picked.Picked.{Picked}
use Rattle.class_group.specs.Turns.{place_of, place_for}
use Rattle.class_group.specs.Answers.{BeginAnswer, IsNotedPick}
use Rattle.copy_walk.specs.Steps.{Picking}
use Rattle.lane_passes.specs.Lanes.{LaneEvent, Ground}
use Rattle.lane_passes.specs.Turns.{AtMetaslab, AtClass, Then}
use Rattle.pool_alloc.specs.Asks.{Ask, AreUnitsOn, bytes_on}

-- the rotor of a class was asked for its vdev
abbrev pub IsBegun : Class → Option ℕ → Ground → List LaneEvent → Type 0
IsBegun class vdev = AtClass (place_of class) (BeginAnswer vdev)

abbrev pub was_active : Option Picked → Bool
was_active None = false
was_active (Some picked) = picked.was_active

-- a metaslab was picked for the copy's units, with its answer noted
pub record IsPicking (a : Ask) (kind : Kind) (pick : Picking) (g : Ground) (es : List LaneEvent) : Type 0 where
  pub count : ℕ
  pub units : AreUnitsOn g.vdevs pick.vdev a.size count
  pub picked : Option Picked
  pub got_is : pick.got ≡ got_of picked
  pub was_is : pick.was_active ≡ was_active picked
  pub turn : AtClass (place_for g.vdevs pick.vdev) (IsNotedPick a.lane kind pick.vdev (bytes_on g.vdevs pick.vdev count) pick.start picked) g es

-- the weight of a metaslab was seen, and posted to its class by such a note
pub record IsPosted (lane : ℕ) (id : MsId) (note : ℕ → ClassNote) (g : Ground) (es : List LaneEvent) : Type 0 where
  pub counts : Counts
  pub weight : ℕ
  pub loaded : Bool
  pub turns : Then (AtMetaslab (number_of g.vdevs id) (IsSight counts weight loaded)) (AtClass (place_for g.vdevs id.vdev) (λ s added. added ≡ Some (lane, note weight))) g es

abbrev pub IsWeighed : ℕ → MsId → Ground → List LaneEvent → Type 0
IsWeighed lane id = IsPosted lane id (λ weight. Weigh id weight)

-- a metaslab granted the copy's units
abbrev pub IsGrantAt : Ask → MsId → ℕ → Seg → Ground → List LaneEvent → Type 0
IsGrantAt a id count seg g = AtMetaslab (number_of g.vdevs id) (GrantAnswer a.lane a.group count (Ok (Granted seg))) g

-- and they were posted to its class
pub record IsGranting (a : Ask) (id : MsId) (seg : Seg) (g : Ground) (es : List LaneEvent) : Type 0 where
  pub count : ℕ
  pub units : AreUnitsOn g.vdevs id.vdev a.size count
  pub turns : Then (IsGrantAt a id count seg) (IsPosted a.lane id (λ weight. GrantedNote id (bytes_on g.vdevs id.vdev count) weight)) g es

-- a look failed: a miss of the copy's units, which was posted, or a worker had shut the metaslab
pub data IsFailing (a : Ask) (id : MsId) (g : Ground) (es : List LaneEvent) : Type 0 where
  missed : (count : ℕ) → AreUnitsOn g.vdevs id.vdev a.size count
      → Then (λ g. AtMetaslab (number_of g.vdevs id) (GrantAnswer a.lane a.group count (Ok Miss)) g) (IsPosted a.lane id (λ weight. Missed id weight)) g es → IsFailing a id g es
  shut : (count : ℕ) → AtMetaslab (number_of g.vdevs id) (GrantAnswer a.lane a.group count (Ok Shut)) g es → IsFailing a id g es

-- free space was not in memory: nothing was noted
abbrev pub IsUnloadedAt : Group → MsId → Ground → List LaneEvent → Type 0
IsUnloadedAt group id g = AtMetaslab (number_of g.vdevs id) (λ o h note. (note ≡ None) × IsNotLoaded group o h) g

-- it was loaded for the lane, and its weight posted
abbrev pub IsLoading : Ask → MsId → Ground → List LaneEvent → Type 0
IsLoading a id = Then (IsUnloadedAt a.group id) (IsWeighed a.lane id)

-- the group of the hold was collected already
abbrev pub IsLateAt : Group → MsId → Group → Group → Ground → List LaneEvent → Type 0
IsLateAt asked id group collected g = AtMetaslab (number_of g.vdevs id) (λ o h note. (note ≡ None) × IsLate asked group collected o h) g
