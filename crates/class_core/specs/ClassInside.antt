-- The fields of a class: what they stand for, and how they agree with its journal.
use Rattle.std.specs.Prelude.{◌≡◌, ℕ, ◌+◌, ◌<◌, ◌==◌, nat_le, nat_lt, if◌then◌else◌, List, map, length, slice_index}
use Rattle.zms_units.specs.declared.places.Class.{Class}
use Rattle.class_model.specs.Replay.{LaneNote, Pair, vdevs_of, metaslabs_of, weight_at, active_at, rotor_at}
use Rattle.class_model.specs.Legal.{IsClassLegal}
use Rattle.class_model.specs.declared.origin.ClassOrigin.{ClassOrigin}
use Rattle.class_core.specs.Groups.{GroupState, group_at, active_in, place_of}
use Rattle.class_core.specs.Classes.{ClassState}
use Rattle.class_core.specs.declared.rotor.Rotor.{Rotor}
use Rattle.class_core.specs.declared.cell.ClassCell.TheInside.{Inside}

-- the class of these groups, with their weights
abbrev pub origin_of : Class → List GroupState → ClassOrigin
origin_of class groups = record { class = class; vdevs = map (λ g. record { vdev = g.vdev; weights = g.weights }) groups }

abbrev pub class_state : Inside → ClassState
class_state c = record { origin = origin_of c.class c.first.value.items; notes = c.notes.items }

-- the metaslabs of a vdev are as the journal says
pub record Mirrors (o : ClassOrigin) (h : List LaneNote) (g : GroupState) : Type 0 where
  pub count : metaslabs_of o g.vdev ≡ length g.weights
  pub places : length g.active ≡ 8
  pub weights : (i : ℕ) → weight_at o h g.vdev i ≡ slice_index g.weights i
  pub active : (p : Pair) → active_at h g.vdev p ≡ active_in g (place_of p)

-- the journal is legal, and the vdevs, the metaslabs of each and the rotor are as it says
pub record IsKept (o : ClassOrigin) (h : List LaneNote) (groups : List GroupState) (r : Rotor) : Type 0 where
  pub legal : IsClassLegal o h
  pub vdevs : vdevs_of o ≡ map (λ g. g.vdev) groups
  pub rising : (j k : ℕ) → j < k → k < length groups → (group_at groups j).vdev < (group_at groups k).vdev
  pub each : (k : ℕ) → k < length groups → Mirrors o h (group_at groups k)
  pub rotor : rotor_at o h ≡ record { vdev = (group_at groups r.place).vdev; used = r.used }
  pub place : 0 < length groups → r.place < length groups
  pub small : r.used < 1048576

abbrev pub IsClass : Inside → Type 0
IsClass c = IsKept (origin_of c.class c.first.value.items) c.notes.items c.groups.items c.rotor

-- the place behind one, and the first behind the last
abbrev pub next_place : ℕ → ℕ → ℕ
next_place count place = if nat_lt (place + 1) count then place + 1 else 0

-- the rotor after so many bytes were granted at a place
abbrev pub rotor_next : Rotor → ℕ → ℕ → ℕ → Rotor
rotor_next r count place bytes =
    if place == r.place then (if nat_le 1048576 (r.used + bytes) then record { place = next_place count place; used = 0 } else record { place = place; used = r.used + bytes }) else r
