-- The fields of a walk: what they stand for, and how they agree.
use Rattle.std.specs.Prelude.{◌≡◌, ℕ, ◌+◌, ◌<◌, ◌≤◌, ◌⊎◌, Bool, true, false, Option, Some, None, List, length, slice_get, ⊤}
use Rattle.copy_walk.specs.Plans.{IsPlan}
use Rattle.copy_walk.specs.Routes.{IsRoute}
use Rattle.copy_walk.specs.Walks.{WalkState, is_marked}
use Rattle.copy_walk.specs.declared.route.Stop.{Stop}
use Rattle.copy_walk.specs.declared.walk.Walk.TheInside.{Inside}

abbrev pub walk_state : Inside → WalkState
walk_state w = record {
  plan = record { vdevs = w.layout.value.vdevs; class = w.class.value; rotor = w.rotor.value; earlier = w.earlier.value };
  stops = w.route;
  place = w.place;
  start = w.start;
  look = w.look;
  round = w.round;
  index = w.index;
  marks = w.marks;
}

-- what is to be looked at is a metaslab of the vdev at hand
abbrev pub IsLookOf : Option ℕ → Option Stop → Type 0
IsLookOf None stop = ⊤
IsLookOf (Some index) None = ⊥
IsLookOf (Some index) (Some stop) = index < stop.metaslabs

-- a place before another
abbrev pub IsPassed : ℕ → ℕ → ℕ → ℕ → Type 0
IsPassed round index k i = (k < round) ⊎ ((k ≡ round) × (i < index))

-- each metaslab before a place is marked
abbrev pub ArePassed : List Stop → List Bool → ℕ → ℕ → Type 0
ArePassed stops marks round index = (k i : ℕ) (s : Stop) → slice_get stops k ≡ Some s → i < s.metaslabs → IsPassed round index k i → is_marked marks (s.first + i) ≡ true

-- and the one there is not
pub record IsOpen (marks : List Bool) (index : ℕ) (s : Stop) : Type 0 where
  pub within : index < s.metaslabs
  pub unmarked : is_marked marks (s.first + index) ≡ false

pub record IsFirstOpen (stops : List Stop) (marks : List Bool) (round index : ℕ) : Type 0 where
  pub passed : ArePassed stops marks round index
  pub here : (s : Stop) → slice_get stops round ≡ Some s → IsOpen marks index s

-- the metaslabs of a stop from an index up to another are marked
abbrev pub AreMarked : Stop → List Bool → ℕ → ℕ → Type 0
AreMarked stop marks from end = (i : ℕ) → from ≤ i → i < end → is_marked marks (stop.first + i) ≡ true

-- and the one there is the first that is not
pub record IsFirstIn (stop : Stop) (marks : List Bool) (from index : ℕ) : Type 0 where
  pub before : AreMarked stop marks from index
  pub here : IsOpen marks index stop
  pub behind : from ≤ index

-- the metaslabs of the stops have numbers below n
abbrev pub AreNumbered : List Stop → ℕ → Type 0
AreNumbered stops n = (k : ℕ) (s : Stop) → slice_get stops k ≡ Some s → s.first + s.metaslabs ≤ n

-- a walk of a plan's vdevs in order, with its marks
pub record IsSound (w : WalkState) : Type 0 where
  pub plan : IsPlan w.plan
  pub route : IsRoute w.plan w.stops
  pub look : IsLookOf w.look (slice_get w.stops w.place)
  pub size : length w.marks ≡ 1024
  pub round : IsFirstOpen w.stops w.marks w.round w.index

abbrev pub IsWalk : Inside → Type 0
IsWalk w = IsSound (walk_state w)
