-- The metaslabs of one vdev of a class as contracts see them.
use Rattle.std.specs.Prelude.{◌≡◌, ℕ, ◌+◌, ◌*◌, ◌<◌, ◌==◌, if◌then◌else◌, Option, Some, None, List, [], length, slice_index, slice_index_or}
use Rattle.zms_units.specs.Weights.{PassesOver}
use Rattle.ms_model.specs.declared.notes.Got.{Got}
use Rattle.ms_model.specs.declared.notes.Kind.{Kind}
use Rattle.ms_model.specs.declared.notes.Kind.TheVariants.{Primary, Secondary}
use Rattle.ms_model.specs.declared.notes.Start.{Start}
use Rattle.ms_model.specs.declared.notes.Start.TheVariants.{Active, Top, After}
use Rattle.class_model.specs.Replay.{Pair, taken}
use Rattle.class_model.specs.Picks.{IsBehind, IsFirstOf}

-- its number in the pool, the weight of each metaslab, and for each pair which is active
pub record GroupState : Type 0 where
  pub vdev : ℕ
  pub weights : List ℕ
  pub active : List (Option ℕ)

-- the vdev at a place; past the last one it has no metaslabs
abbrev pub group_at : List GroupState → ℕ → GroupState
group_at groups k = slice_index_or groups k (record { vdev = 0; weights = []; active = [] })

-- the vdev of a number stands at this place
pub record IsPlaceOf (groups : List GroupState) (v place : ℕ) : Type 0 where
  pub within : place < length groups
  pub vdev : (group_at groups place).vdev ≡ v

-- where a pair of allocator and kind stands
abbrev pub kind_place : Kind → ℕ
kind_place Primary = 0
kind_place Secondary = 1

abbrev pub place_of : Pair → ℕ
place_of p = 2 * p.allocator + kind_place p.kind

abbrev pub active_in : GroupState → ℕ → Option ℕ
active_in s place = slice_index_or s.active place None

-- an inactive metaslab, with its weight
pub record Stands (s : GroupState) (g : Got) : Type 0 where
  pub within : g.index < length s.weights
  pub weight : g.weight ≡ slice_index s.weights g.index
  pub inactive : (place : ℕ) → active_in s place ≡ Some g.index → ⊥

-- the first inactive one that is not passed over, from the start on
abbrev pub IsNext : GroupState → ℕ → Start → Option Got → Type 0
IsNext s bytes start got = IsFirstOf (λ g. (Stands s g × (PassesOver g.weight bytes → ⊥)) × IsBehind start g) got

abbrev pub IsActiveOrNext : GroupState → ℕ → Option ℕ → Option Got → Type 0
IsActiveOrNext s bytes None got = IsNext s bytes Top got
IsActiveOrNext s bytes (Some i) got = got ≡ Some (record { index = i; weight = slice_index s.weights i })

-- what a pick at a place gives
abbrev pub IsPick : GroupState → ℕ → ℕ → Start → Option Got → Type 0
IsPick s place bytes Active got = IsActiveOrNext s bytes (active_in s place) got
IsPick s place bytes Top got = IsNext s bytes Top got
IsPick s place bytes (After weight index) got = IsNext s bytes (After weight index) got

-- the same vdev and weights, and at one place what was taken is active
pub record Takes (old new : GroupState) (place : ℕ) (got : Option Got) : Type 0 where
  pub vdev : new.vdev ≡ old.vdev
  pub weights : new.weights ≡ old.weights
  pub places : length new.active ≡ length old.active
  pub active : (k : ℕ) → active_in new k ≡ (if place == k then taken (active_in old k) got else active_in old k)
