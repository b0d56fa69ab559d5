-- What is posted to a class with a metaslab's weight.
use Rattle.std.specs.Prelude.{◌≡◌, ℕ, Bool, None, List, Result, Ok, Err}
use Rattle.zms_units.specs.declared.places.MsId.{MsId}
use Rattle.vdev_map.specs.Numbers.{number_of}
use Rattle.ms_model.specs.declared.notes.ClassNote.{ClassNote}
use Rattle.ms_model.specs.declared.notes.ClassNote.TheVariants.{Granted as GrantedNote, Missed as MissedNote, Weigh as WeighNote}
use Rattle.ms_core.specs.declared.faults.Counts.{Counts}
use Rattle.ms_cell.specs.Answers.{IsSight}
use Rattle.class_group.specs.Turns.{place_for}
use Rattle.lane_passes.specs.Lanes.{LaneEvent, Ground}
use Rattle.lane_passes.specs.Turns.{AtMetaslab, AtClass, Then}
use Rattle.pool_alloc.specs.Looks.{IsPosted}
use Rattle.pool_alloc.specs.declared.turns.Post.{Post}
use Rattle.pool_alloc.specs.declared.turns.Post.TheVariants.{Granted, Missed, Weigh}

abbrev pub note_of : MsId → Post → ℕ → ClassNote
note_of id (Granted bytes) weight = GrantedNote id bytes weight
note_of id Missed weight = MissedNote id weight
note_of id Weigh weight = WeighNote id weight

-- the weight was seen, and not posted for want of memory
pub record IsNotPosted (id : MsId) (g : Ground) (es : List LaneEvent) : Type 0 where
  pub counts : Counts
  pub weight : ℕ
  pub loaded : Bool
  pub turns : Then (AtMetaslab (number_of g.vdevs id) (IsSight counts weight loaded)) (AtClass (place_for g.vdevs id.vdev) (λ s added. added ≡ None)) g es

abbrev pub IsPost : {E : Type 0} → ℕ → MsId → Post → Result (Unit {0}) E → Ground → List LaneEvent → Type 0
IsPost lane id post (Ok _) g es = IsPosted lane id (note_of id post) g es
IsPost lane id post (Err _) g es = IsNotPosted id g es
