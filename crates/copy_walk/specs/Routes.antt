-- The order of the vdevs as it is kept.
use Rattle.std.specs.Prelude.{◌≡◌, ℕ, ◌<◌, ◌⊎◌, Bool, true, false, Some, List, slice_get, ⊤}
use Rattle.zms_units.specs.declared.places.VdevRow.{VdevRow}
use Rattle.vdev_map.specs.Numbers.{row_at, number_of}
use Rattle.copy_walk.specs.Plans.{Plan, IsVdev, holds, distance, ComesBefore}
use Rattle.copy_walk.specs.declared.route.Stop.{Stop}

-- a vdev with the number in the pool of its first metaslab, and how many it has
abbrev pub stop_of : List VdevRow → ℕ → Stop
stop_of vdevs v = record { vdev = v; first = number_of vdevs (record { vdev = v; index = 0 }); metaslabs = (row_at vdevs v).metaslabs }

-- the stops are of vdevs of the class with P, all of them, each before the next
pub record HasStops (p : Plan) (P : ℕ → Type 0) (stops : List Stop) : Type 0 where
  pub each : (k : ℕ) (s : Stop) → slice_get stops k ≡ Some s → IsVdev p s.vdev × (P s.vdev × (s ≡ stop_of p.vdevs s.vdev))
  pub all : (v : ℕ) → IsVdev p v → P v → (k : ℕ) × (slice_get stops k ≡ Some (stop_of p.vdevs v))
  pub sorted : (j k : ℕ) (s t : Stop) → j < k → slice_get stops j ≡ Some s → slice_get stops k ≡ Some t → ComesBefore p s.vdev t.vdev

-- the first n vdevs from the rotor's on that hold no earlier copy; or all of these, and the first n that hold one
abbrev pub IsTaken : Plan → Bool → ℕ → ℕ → Type 0
IsTaken p holding n v = ((holds p v ≡ false) × (holding ≡ true)) ⊎ ((holds p v ≡ holding) × (distance p v < n))

-- the stops are of all vdevs of the class
abbrev pub IsRoute : Plan → List Stop → Type 0
IsRoute p stops = HasStops p (λ _. ⊤) stops
