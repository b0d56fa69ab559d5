-- What one copy of a block may be placed on, and in which order.
use Rattle.std.specs.Prelude.{◌≡◌, ℕ, ◌+◌, ◌-◌, ◌<◌, ◌⊎◌, ◌==◌, nat_lt, Bool, true, false, if◌then◌else◌, List, length}
use Rattle.std.specs.List.{list_any}
use Rattle.zms_units.specs.declared.blocks.Dva.{Dva}
use Rattle.zms_units.specs.declared.places.Class.{Class}
use Rattle.zms_units.specs.declared.places.MsId.{MsId}
use Rattle.zms_units.specs.declared.places.VdevRow.{VdevRow}
use Rattle.vdev_map.specs.Limits.{AreVdevs}
use Rattle.vdev_map.specs.Numbers.{row_at}

-- the vdevs of the pool, the class of which space is wanted, the vdev at which its rotor stands, and the copies that the block has already
pub record Plan : Type 0 where
  pub vdevs : List VdevRow
  pub class : Class
  pub rotor : ℕ
  pub earlier : List Dva

abbrev pub plan_of : List VdevRow → Class → ℕ → List Dva → Plan
plan_of vdevs class rotor earlier = record { vdevs = vdevs; class = class; rotor = rotor; earlier = earlier }

-- a vdev of the class, and a metaslab of one
abbrev pub IsVdev : Plan → ℕ → Type 0
IsVdev p v = (v < length p.vdevs) × ((row_at p.vdevs v).class ≡ p.class)

pub record IsMetaslab (p : Plan) (id : MsId) : Type 0 where
  pub vdev : IsVdev p id.vdev
  pub index : id.index < (row_at p.vdevs id.vdev).metaslabs

-- the vdevs are those of a pool, and the rotor stands at one of the class
pub record IsPlan (p : Plan) : Type 0 where
  pub vdevs : AreVdevs p.vdevs
  pub rotor : IsVdev p p.rotor

-- does a vdev hold an earlier copy of the block?
abbrev pub holds : Plan → ℕ → Bool
holds p v = list_any (λ dva. dva.vdev == v) p.earlier

-- how many vdevs further on one is, going round from the rotor's
abbrev pub distance : Plan → ℕ → ℕ
distance p v = if nat_lt v p.rotor then v + length p.vdevs - p.rotor else v - p.rotor

-- one vdev comes before another: it holds no earlier copy and the other does, or it is nearer where both do or neither
abbrev pub ComesBefore : Plan → ℕ → ℕ → Type 0
ComesBefore p v u = ((holds p v ≡ false) × (holds p u ≡ true)) ⊎ ((holds p v ≡ holds p u) × (distance p v < distance p u))

-- one metaslab comes before another: its vdev does, or on one vdev its index is lower
abbrev pub StandsBefore : Plan → MsId → MsId → Type 0
StandsBefore p a b = ComesBefore p a.vdev b.vdev ⊎ ((a.vdev ≡ b.vdev) × (a.index < b.index))
