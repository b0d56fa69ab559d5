-- How the parts of an allocation end, each by what the lane did: a load, a look, the walk over a class, and the search for a copy's place.
use Rattle.std.specs.Prelude.{◌≡◌, ℕ, ◌≤◌, Option, Some, None, List, length, Result, Ok, Err, slice_get}
use Rattle.zms_units.specs.declared.segments.Seg.{Seg}
use Rattle.zms_units.specs.declared.blocks.Dva.{Dva}
use Rattle.zms_units.specs.declared.places.MsId.{MsId}
use Rattle.zms_units.specs.declared.places.Class.{Class}
use Rattle.zms_units.specs.declared.places.VdevRow.{VdevRow}
use Rattle.vdev_map.specs.Numbers.{row_at}
use Rattle.ms_cell.specs.declared.loader.LoadFault.{LoadFault}
use Rattle.ms_cell.specs.declared.loader.LoadFault.TheVariants.{Suspended as LoadSuspended, Device as LoadDevice, Damaged as LoadDamaged}
use Rattle.copy_walk.specs.Plans.{Plan}
use Rattle.lane_passes.specs.Lanes.{LaneEvent, Ground}
use Rattle.lane_passes.specs.Turns.{Nothing}
use Rattle.pool_alloc.specs.Asks.{Ask, kind_of, dva_of, IsSegAt}
use Rattle.pool_alloc.specs.Looks.{IsGranting, IsFailing, IsLoading, IsWeighed, IsUnloadedAt, IsLateAt}
use Rattle.pool_alloc.specs.Walks.{IsLookedAt, IsPlacedAt}
use Rattle.pool_alloc.specs.Places.{IsOn, IsOnEither, IsFull, IsPlaced, IsNowhere}
use Rattle.pool_alloc.specs.Allocs.{GrantNothing, IsBroken, IsUnposted}
use Rattle.pool_alloc.specs.declared.looks.Looked.{Looked}
use Rattle.pool_alloc.specs.declared.looks.Looked.TheVariants.{Placed, Failed, Loaded}
use Rattle.pool_alloc.specs.declared.looks.Cut.{Cut}
use Rattle.pool_alloc.specs.declared.looks.Cut.TheVariants.{Late, Device, Damaged, Suspended, Memory, Unposted}
use Rattle.pool_alloc.specs.declared.placing.Found.{Found}
use Rattle.pool_alloc.specs.declared.placing.Found.TheVariants.{Placed as PlacedCopy, Full}

-- the load refusal that it tells of
abbrev pub load_of_cut : Cut → Option LoadFault
load_of_cut (Device before after) = Some (LoadDevice before after)
load_of_cut (Damaged id damage) = Some (LoadDamaged id damage)
load_of_cut (Suspended first) = Some (LoadSuspended first)
load_of_cut _ = None

-- a few turns in which nothing was granted
abbrev pub IsTail : Ground → List LaneEvent → Type 0
IsTail g es = GrantNothing g es × (length es ≤ 2)

-- a load for the lane takes no turn of the lane's; behind it the weight is posted
abbrev pub LoadLine : ℕ → MsId → Result (Unit {0}) Cut → Ground → List LaneEvent → Type 0
LoadLine lane id (Ok _) g es = IsWeighed lane id g es
LoadLine lane id (Err Memory) g es = IsTail g es
LoadLine lane id (Err (Device _ _)) g es = Nothing g es
LoadLine lane id (Err (Damaged _ _)) g es = Nothing g es
LoadLine lane id (Err (Suspended _)) g es = Nothing g es
LoadLine lane id (Err _) g es = ⊥

-- a look at a metaslab was cut short
abbrev pub IsCutLook : Ask → MsId → Cut → Ground → List LaneEvent → Type 0
IsCutLook a id (Late group collected) g es = IsLateAt a.group id group collected g es
IsCutLook a id (Device _ _) g es = IsUnloadedAt a.group id g es
IsCutLook a id (Damaged _ _) g es = IsUnloadedAt a.group id g es
IsCutLook a id (Suspended _) g es = IsUnloadedAt a.group id g es
IsCutLook a id Memory g es = GrantNothing g es × (length es ≤ 3)
IsCutLook a id (Unposted dva) g es = (seg : Seg) × ((dva ≡ dva_of g.vdevs id seg) × IsUnposted a id seg g es)

abbrev pub LookLine : Ask → MsId → Result Looked Cut → Ground → List LaneEvent → Type 0
LookLine a id (Ok (Placed dva)) g es = (seg : Seg) × ((dva ≡ dva_of g.vdevs id seg) × IsGranting a id seg g es)
LookLine a id (Ok Failed) g es = IsFailing a id g es
LookLine a id (Ok Loaded) g es = IsLoading a id g es
LookLine a id (Err cut) g es = IsCutLook a id cut g es

-- a search, on a class or on two, was cut short
abbrev pub IsCutOn : Ask → List Dva → ((Plan → Ground → List LaneEvent → Type 0) → Ground → List LaneEvent → Type 0) → Cut → Ground → List LaneEvent → Type 0
IsCutOn a earlier On (Late group collected) g es = (id : MsId) × On (λ p. IsLookedAt a (kind_of earlier) p id (IsLateAt a.group id group collected)) g es
IsCutOn a earlier On (Device _ _) g es = (id : MsId) × On (λ p. IsLookedAt a (kind_of earlier) p id (IsUnloadedAt a.group id)) g es
IsCutOn a earlier On (Damaged _ _) g es = (id : MsId) × On (λ p. IsLookedAt a (kind_of earlier) p id (IsUnloadedAt a.group id)) g es
IsCutOn a earlier On (Suspended _) g es = (id : MsId) × On (λ p. IsLookedAt a (kind_of earlier) p id (IsUnloadedAt a.group id)) g es
IsCutOn a earlier On Memory g es = On (IsBroken a (kind_of earlier)) g es
IsCutOn a earlier On (Unposted dva) g es = (id : MsId) × ((seg : Seg) × ((dva ≡ dva_of g.vdevs id seg) × On (λ p. IsLookedAt a (kind_of earlier) p id (IsUnposted a id seg)) g es))

-- the walk over one class
abbrev pub ClassLine : Ask → List Dva → Class → Result Found Cut → Ground → List LaneEvent → Type 0
ClassLine a earlier class (Ok (PlacedCopy dva)) g es = (id : MsId) × ((seg : Seg) × ((dva ≡ dva_of g.vdevs id seg) × IsOn earlier class (IsPlacedAt a (kind_of earlier) id seg) g es))
ClassLine a earlier class (Ok (Full looked)) g es = IsFull a earlier class g es looked
ClassLine a earlier class (Err cut) g es = IsCutOn a earlier (IsOn earlier class) cut g es

-- the search on the class that was asked for, and on normal
abbrev pub CopyLine : Ask → List Dva → Class → Result Found Cut → Ground → List LaneEvent → Type 0
CopyLine a earlier class (Ok (PlacedCopy dva)) g es = IsPlaced a class earlier dva g es
CopyLine a earlier class (Ok (Full looked)) g es = IsNowhere a class earlier g es looked
CopyLine a earlier class (Err cut) g es = IsCutOn a earlier (IsOnEither a earlier class) cut g es

-- a copy is a metaslab's segment, of the class of its vdev
pub record IsLaid (vdevs : List VdevRow) (dva : Dva) : Type 0 where
  pub id : MsId
  pub seg : Seg
  pub at : IsSegAt vdevs dva.vdev dva.offset dva.size id seg
  pub class_is : dva.class ≡ (row_at vdevs dva.vdev).class

abbrev pub AllLaid : List VdevRow → List Dva → Type 0
AllLaid vdevs dvas = (k : ℕ) (dva : Dva) → slice_get dvas k ≡ Some dva → IsLaid vdevs dva

-- what was granted is one
abbrev pub IsLaidCut : List VdevRow → Cut → Type 0
IsLaidCut vdevs (Unposted dva) = IsLaid vdevs dva
IsLaidCut vdevs _ = Unit {0}

abbrev pub AreLaid : List VdevRow → Result Looked Cut → Type 0
AreLaid vdevs (Ok (Placed dva)) = IsLaid vdevs dva
AreLaid vdevs (Ok _) = Unit {0}
AreLaid vdevs (Err cut) = IsLaidCut vdevs cut

abbrev pub AreLaidAt : List VdevRow → Result Found Cut → Type 0
AreLaidAt vdevs (Ok (PlacedCopy dva)) = IsLaid vdevs dva
AreLaidAt vdevs (Ok _) = Unit {0}
AreLaidAt vdevs (Err cut) = IsLaidCut vdevs cut

-- so few metaslabs that a sum of two such counts is small: there are at most 1024 in a pool
abbrev pub AreFewLooked : Result Found Cut → Type 0
AreFewLooked (Ok (Full looked)) = looked ≤ 1024
AreFewLooked (Ok (PlacedCopy _)) = Unit {0}
AreFewLooked (Err _) = Unit {0}
