-- What the notes of a class say so far: the weights, what is active, and the rotor.
use Rattle.std.specs.Prelude.{◌≡◌, ℕ, ◌+◌, ◌<◌, ◌==◌, ◌&&◌, nat_le, Bool, true, false, if◌then◌else◌, Option, Some, None, List, [], ◌∷◌, length, map, slice_get, slice_index}
use Rattle.std.specs.List.{fold}
use Rattle.zms_units.specs.declared.places.MsId.{MsId}
use Rattle.ms_model.specs.declared.notes.ClassNote.{ClassNote}
use Rattle.ms_model.specs.declared.notes.ClassNote.TheVariants.{Pick, Granted, Missed, Weigh}
use Rattle.ms_model.specs.declared.notes.Got.{Got}
use Rattle.ms_model.specs.declared.notes.Kind.{Kind}
use Rattle.ms_model.specs.declared.notes.Kind.TheVariants.{Primary, Secondary}
use Rattle.class_model.specs.declared.origin.ClassOrigin.{ClassOrigin}
use Rattle.class_model.specs.declared.origin.ClassVdev.{ClassVdev}

-- a lane's note, as a class's journal has it
abbrev pub LaneNote : Type 0
LaneNote = ℕ × ClassNote

-- the vdevs of a class, in order, and whether one is among them
abbrev pub vdevs_of : ClassOrigin → List ℕ
vdevs_of o = map (λ one. one.vdev) o.vdevs

abbrev pub IsAmong : List ℕ → ℕ → Type 0
IsAmong vdevs v = (k : ℕ) × (slice_get vdevs k ≡ Some v)

abbrev pub IsVdevOf : ClassOrigin → ℕ → Type 0
IsVdevOf o v = IsAmong (vdevs_of o) v

-- the first weights of a vdev's metaslabs, and how many these are
abbrev pub weights_in : List ClassVdev → ℕ → List ℕ
weights_in [] v = []
weights_in (one ∷ more) v = if one.vdev == v then one.weights else weights_in more v

abbrev pub metaslabs_of : ClassOrigin → ℕ → ℕ
metaslabs_of o v = length (weights_in o.vdevs v)

-- the class has this metaslab
pub record IsIn (o : ClassOrigin) (id : MsId) : Type 0 where
  pub vdev : IsVdevOf o id.vdev
  pub index : id.index < metaslabs_of o id.vdev

-- is this the metaslab of an index on a vdev?
abbrev pub is_at : ℕ → ℕ → MsId → Bool
is_at v i id = (id.vdev == v) && (id.index == i)

-- the weight of a metaslab is what was posted on it last
abbrev pub weight_after : ℕ → ℕ → ℕ → ClassNote → ℕ
weight_after v i so_far (Pick _ _ _ _ _ _) = so_far
weight_after v i so_far (Granted id _ weight) = if is_at v i id then weight else so_far
weight_after v i so_far (Missed id weight) = if is_at v i id then weight else so_far
weight_after v i so_far (Weigh id weight) = if is_at v i id then weight else so_far

-- or else its first weight
abbrev pub weight_at : ClassOrigin → List LaneNote → ℕ → ℕ → ℕ
weight_at o h v i = fold (λ so_far n. weight_after v i so_far n.1) (slice_index (weights_in o.vdevs v) i) h

-- one of four allocators, and the kind of copy
pub record Pair : Type 0 where
  pub allocator : ℕ
  pub kind : Kind

abbrev pub is_kind : Kind → Kind → Bool
is_kind Primary Primary = true
is_kind Primary Secondary = false
is_kind Secondary Primary = false
is_kind Secondary Secondary = true

abbrev pub is_pair : Pair → ℕ → Kind → Bool
is_pair p allocator kind = (p.allocator == allocator) && is_kind p.kind kind

-- what a pick gives becomes active, in place of what was
abbrev pub taken : Option ℕ → Option Got → Option ℕ
taken so_far None = so_far
taken so_far (Some got) = Some got.index

-- what was missed is active no more
abbrev pub dropped : ℕ → Option ℕ → Option ℕ
dropped i None = None
dropped i (Some j) = if i == j then None else Some j

abbrev pub active_after : ℕ → Pair → Option ℕ → ClassNote → Option ℕ
active_after v p so_far (Pick allocator kind vdev _ _ got) = if (vdev == v) && is_pair p allocator kind then taken so_far got else so_far
active_after v p so_far (Granted _ _ _) = so_far
active_after v p so_far (Missed id _) = if id.vdev == v then dropped id.index so_far else so_far
active_after v p so_far (Weigh _ _) = so_far

-- the active metaslab of a pair on a vdev, of which there is none at the opening
abbrev pub active_at : List LaneNote → ℕ → Pair → Option ℕ
active_at h v p = fold (λ so_far n. active_after v p so_far n.1) None h

-- the vdev from which allocations of a class begin, and the bytes granted on it since it became that
pub record Rotor : Type 0 where
  pub vdev : ℕ
  pub used : ℕ

abbrev pub first_or : ℕ → List ℕ → ℕ
first_or other [] = other
first_or other (v ∷ vs) = v

-- the vdev behind one in a list, and the first behind the last
abbrev pub next_in : ℕ → List ℕ → ℕ → ℕ
next_in first [] v = first
next_in first (u ∷ us) v = if u == v then first_or first us else next_in first us v

abbrev pub next_of : List ℕ → ℕ → ℕ
next_of vdevs v = next_in (first_or 0 vdevs) vdevs v

-- so many bytes are granted on the rotor's vdev, and at a mebibyte the next one follows: OpenZFS's `mg_aliquot`
abbrev pub turned : List ℕ → ℕ → ℕ → Rotor
turned vdevs v used = if nat_le 1048576 used then record { vdev = next_of vdevs v; used = 0 } else record { vdev = v; used = used }

abbrev pub rotor_after : List ℕ → Rotor → ClassNote → Rotor
rotor_after vdevs so_far (Pick _ _ _ _ _ _) = so_far
rotor_after vdevs so_far (Granted id bytes _) = if id.vdev == so_far.vdev then turned vdevs so_far.vdev (so_far.used + bytes) else so_far
rotor_after vdevs so_far (Missed _ _) = so_far
rotor_after vdevs so_far (Weigh _ _) = so_far

-- at the opening it is at the first vdev
abbrev pub rotor_at : ClassOrigin → List LaneNote → Rotor
rotor_at o h = fold (λ so_far n. rotor_after (vdevs_of o) so_far n.1) (record { vdev = first_or 0 (vdevs_of o); used = 0 }) h
