-- Where the copies of a block were placed: on the class that was asked for, or on normal where it has no space.
use Rattle.std.specs.Prelude.{◌≡◌, ◌≢◌, ℕ, ◌+◌, Some, None, List, [], ◌∷◌, ◌++◌}
use Rattle.zms_units.specs.declared.segments.Seg.{Seg}
use Rattle.zms_units.specs.declared.blocks.Dva.{Dva}
use Rattle.zms_units.specs.declared.places.MsId.{MsId}
use Rattle.zms_units.specs.declared.places.Class.{Class}
use Rattle.zms_units.specs.declared.places.Class.TheVariants.{Normal}
use Rattle.copy_walk.specs.Plans.{Plan, plan_of}
use Rattle.lane_passes.specs.Lanes.{LaneEvent, Ground}
use Rattle.lane_passes.specs.Turns.{Then}
use Rattle.pool_alloc.specs.Asks.{Ask, kind_of, dva_of}
use Rattle.pool_alloc.specs.Looks.{IsBegun}
use Rattle.pool_alloc.specs.Walks.{IsPlacedAt, IsFullBy}

-- on a class whose rotor stands at a vdev, the walk from there ends so
pub record IsOn (earlier : List Dva) (class : Class) (Ends : Plan → Ground → List LaneEvent → Type 0) (g : Ground) (es : List LaneEvent) : Type 0 where
  pub rotor : ℕ
  pub turns : Then (IsBegun class (Some rotor)) (Ends (plan_of g.vdevs class rotor earlier)) g es

-- a class has no space for a copy: it has no vdev, or each of its metaslabs failed
pub data IsFull (a : Ask) (earlier : List Dva) (class : Class) (g : Ground) (es : List LaneEvent) : ℕ → Type 0 where
  no_vdev : IsBegun class None g es → IsFull a earlier class g es 0
  each_failed : (looked : ℕ) → IsOn earlier class (IsFullBy a (kind_of earlier) looked) g es → IsFull a earlier class g es looked

-- on the class that was asked for, or on normal where that is another and has no space
pub data IsOnEither (a : Ask) (earlier : List Dva) (class : Class) (Ends : Plan → Ground → List LaneEvent → Type 0) (g : Ground) (es : List LaneEvent) : Type 0 where
  on_class : IsOn earlier class Ends g es → IsOnEither a earlier class Ends g es
  on_normal : (looked : ℕ) → class ≢ Normal → Then (λ g es. IsFull a earlier class g es looked) (IsOn earlier Normal Ends) g es → IsOnEither a earlier class Ends g es

-- a copy was placed, behind the earlier ones
pub record IsPlaced (a : Ask) (class : Class) (earlier : List Dva) (dva : Dva) (g : Ground) (es : List LaneEvent) : Type 0 where
  pub id : MsId
  pub seg : Seg
  pub dva_is : dva ≡ dva_of g.vdevs id seg
  pub on : IsOnEither a earlier class (IsPlacedAt a (kind_of earlier) id seg) g es

-- it has no place: neither the class that was asked for nor normal has space, and so many metaslabs failed
pub data IsNowhere (a : Ask) (class : Class) (earlier : List Dva) (g : Ground) (es : List LaneEvent) : ℕ → Type 0 where
  not_on_normal : (looked : ℕ) → class ≡ Normal → IsFull a earlier Normal g es looked → IsNowhere a class earlier g es looked
  on_neither : (first second : ℕ) → class ≢ Normal → Then (λ g es. IsFull a earlier class g es first) (λ g es. IsFull a earlier Normal g es second) g es
      → IsNowhere a class earlier g es (first + second)

-- copies were placed, one after the other
pub data ArePlaced (a : Ask) (class : Class) (g : Ground) : List Dva → List LaneEvent → Type 0 where
  none : ArePlaced a class g [] []
  more : (dvas : List Dva) (dva : Dva) (es fs : List LaneEvent) → ArePlaced a class g dvas es → IsPlaced a class dvas dva g fs → ArePlaced a class g (dvas ++ dva ∷ []) (es ++ fs)
