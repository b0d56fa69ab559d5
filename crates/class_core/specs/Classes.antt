-- The value of a class as contracts see it.
use Rattle.std.specs.Prelude.{◌≡◌, ℕ, ◌<◌, ◌↔◌, Bool, true, false, Option, Some, None, List, [], ◌∷◌, ◌++◌, length, slice_index, MatchOption, ⊤}
use Rattle.zms_units.specs.declared.places.Class.{Class}
use Rattle.zms_units.specs.declared.places.MsId.{MsId}
use Rattle.zms_units.specs.declared.places.VdevRow.{VdevRow}
use Rattle.vdev_map.specs.Numbers.{row_at, number_of}
use Rattle.ms_model.specs.declared.notes.ClassNote.{ClassNote}
use Rattle.ms_model.specs.declared.notes.Got.{Got}
use Rattle.ms_model.specs.declared.notes.Kind.{Kind}
use Rattle.ms_model.specs.declared.notes.Start.{Start}
use Rattle.ms_model.specs.declared.notes.Start.TheVariants.{Active}
use Rattle.class_model.specs.Replay.{LaneNote, Pair, IsVdevOf, vdevs_of, metaslabs_of, weight_at, active_at, rotor_at}
use Rattle.class_model.specs.Picks.{IsAnswer}
use Rattle.class_model.specs.Legal.{allocator_of}
use Rattle.class_model.specs.declared.origin.ClassOrigin.{ClassOrigin}
use Rattle.class_core.specs.declared.picked.Picked.{Picked}

-- what the class was when its pool was opened, and the journal since
pub record ClassState : Type 0 where
  pub origin : ClassOrigin
  pub notes : List LaneNote

-- one note more
abbrev pub noted : ClassState → ℕ → ClassNote → ClassState
noted s lane note = record s { notes = s.notes ++ (lane, note) ∷ [] }

-- allocations begin at the rotor's vdev, and nowhere where the class has none
abbrev pub IsBegin : ClassState → Option ℕ → Type 0
IsBegin s None = length s.origin.vdevs ≡ 0
IsBegin s (Some v) = (0 < length s.origin.vdevs) × (v ≡ (rotor_at s.origin s.notes).vdev)

-- a metaslab that was picked, as a note has it
abbrev pub got_of : Option Picked → Option Got
got_of None = None
got_of (Some p) = Some (record { index = p.index; weight = p.weight })

-- a pick asked for the active metaslab, and there was one
abbrev pub finds_active : Start → Option ℕ → Bool
finds_active Active (Some i) = true
finds_active start active = false

abbrev pub pair_of : ℕ → Kind → Pair
pair_of lane kind = record { allocator = allocator_of lane; kind = kind }

-- what the pick of a lane gives by the journal: a metaslab of the vdev, or none
pub record IsPicked (s : ClassState) (lane : ℕ) (kind : Kind) (vdev bytes : ℕ) (start : Start) (picked : Option Picked) : Type 0 where
  pub answer : IsAnswer s.origin s.notes vdev (pair_of lane kind) bytes start (got_of picked)
  pub was_active : MatchOption picked ⊤ (λ p. p.was_active ≡ finds_active start (active_at s.notes vdev (pair_of lane kind)))
  pub within : MatchOption picked ⊤ (λ p. p.index < metaslabs_of s.origin vdev)

-- a vdev of the rows has this class
abbrev pub HasClass : List VdevRow → Class → ℕ → Type 0
HasClass rows class v = (v < length rows) × ((row_at rows v).class ≡ class)

-- the class of a pool with these vdevs and these weights, in order of vdev and index
pub record IsOriginOf (rows : List VdevRow) (of : Class) (all : List ℕ) (o : ClassOrigin) : Type 0 where
  pub class : o.class ≡ of
  pub vdevs : (v : ℕ) → IsVdevOf o v ↔ HasClass rows of v
  pub rising : (j k : ℕ) → j < k → k < length o.vdevs → slice_index (vdevs_of o) j < slice_index (vdevs_of o) k
  pub metaslabs : (v : ℕ) → IsVdevOf o v → metaslabs_of o v ≡ (row_at rows v).metaslabs
  pub weights : (id : MsId) → IsVdevOf o id.vdev → id.index < metaslabs_of o id.vdev → weight_at o [] id.vdev id.index ≡ slice_index all (number_of rows id)
