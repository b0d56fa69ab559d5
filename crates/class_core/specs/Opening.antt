-- The groups of a class as its pool opens it.
use Rattle.std.specs.Prelude.{◌≡◌, ℕ, ◌<◌, Bool, true, false, List, [], ◌∷◌, ◌++◌, length, replicate, None, slice_index}
use Rattle.zms_units.specs.declared.places.Class.{Class}
use Rattle.zms_units.specs.declared.places.VdevRow.{VdevRow}
use Rattle.vdev_map.specs.Numbers.{row_at, number_of}
use Rattle.class_core.specs.Groups.{GroupState, group_at}

-- a group of metaslabs none of which is active
abbrev pub new_group : ℕ → List ℕ → GroupState
new_group vdev weights = record { vdev = vdev; weights = weights; active = replicate 8 None }

-- one group more, if it is wanted
abbrev pub Adds : List GroupState → ℕ → List ℕ → Bool → List GroupState → Type 0
Adds old vdev weights true new = new ≡ old ++ new_group vdev weights ∷ []
Adds old vdev weights false new = new ≡ old

-- the group of a vdev of the class, with its own of all weights
pub record IsGroupOf (rows : List VdevRow) (of : Class) (all : List ℕ) (n : ℕ) (g : GroupState) : Type 0 where
  pub below : g.vdev < n
  pub class : (row_at rows g.vdev).class ≡ of
  pub fresh : g ≡ new_group g.vdev g.weights
  pub count : length g.weights ≡ (row_at rows g.vdev).metaslabs
  pub weights : (i : ℕ) → i < length g.weights → slice_index g.weights i ≡ slice_index all (number_of rows (record { vdev = g.vdev; index = i }))

-- the groups of the first n vdevs that are of the class, in rising order
pub record AreGroups (rows : List VdevRow) (of : Class) (weights : List ℕ) (n : ℕ) (groups : List GroupState) : Type 0 where
  pub rising : (j k : ℕ) → j < k → k < length groups → (group_at groups j).vdev < (group_at groups k).vdev
  pub each : (k : ℕ) → k < length groups → IsGroupOf rows of weights n (group_at groups k)
  pub all : (v : ℕ) → v < n → (row_at rows v).class ≡ of → (k : ℕ) × ((k < length groups) × ((group_at groups k).vdev ≡ v))
