-- What a free answers, by what the lane did.
use Rattle.std.specs.Prelude.{◌≡◌, ℕ, ◌<◌, ◌≤◌, None, List, [], ◌∷◌, ◌++◌, length, Result, Ok, Err}
use Rattle.zms_units.specs.declared.segments.Seg.{Seg}
use Rattle.zms_units.specs.declared.segments.Group.{Group}
use Rattle.zms_units.specs.declared.blocks.Dva.{Dva}
use Rattle.zms_units.specs.declared.places.MsId.{MsId}
use Rattle.zms_units.specs.declared.places.VdevRow.{VdevRow}
use Rattle.vdev_map.specs.Numbers.{number_of}
use Rattle.ms_model.specs.Units.{last_act}
use Rattle.ms_model.specs.Legal.{IsGrantedBy}
use Rattle.ms_cell.specs.Answers.{FreeAnswer, IsLate, IsNotLive}
use Rattle.lane_passes.specs.Lanes.{LaneEvent, Ground}
use Rattle.lane_passes.specs.Turns.{AtMetaslab, Nothing, Then}
use Rattle.pool_alloc.specs.Asks.{IsSegAt, offset_of}
use Rattle.pool_alloc.specs.Looks.{IsUnloadedAt}
use Rattle.pool_alloc.specs.Allocs.{Holding}
use Rattle.pool_alloc.specs.declared.answers.FreeFault.{FreeFault}
use Rattle.pool_alloc.specs.declared.answers.FreeFault.TheVariants.{NoSuch, BadSeg, NotLive, Late, Device, Damaged, Suspended, Memory}

-- a place on a vdev, in bytes
pub record Place : Type 0 where
  pub vdev : ℕ
  pub offset : ℕ
  pub size : ℕ

abbrev pub place_of : Dva → Place
place_of dva = record { vdev = dva.vdev; offset = dva.offset; size = dva.size }

-- the vdevs have no such segment: no such vdev, or no metaslab's segment there
abbrev pub Misplaced : List VdevRow → Place → FreeFault → Type 0
Misplaced vdevs place NoSuch = length vdevs ≤ place.vdev
Misplaced vdevs place BadSeg = (place.vdev < length vdevs) × ((id : MsId) (seg : Seg) → IsSegAt vdevs place.vdev place.offset place.size id seg → ⊥)
Misplaced vdevs place _ = ⊥

-- free space was not in memory, as often as it was loaded again
pub data AreUnloaded (group : Group) (id : MsId) (g : Ground) : List LaneEvent → Type 0 where
  none : AreUnloaded group id g []
  more : (es fs : List LaneEvent) → AreUnloaded group id g es → IsUnloadedAt group id g fs → AreUnloaded group id g (es ++ fs)

-- a free of the segment in the group came to this answer, once free space was in memory
pub record IsFreeAt (lane : ℕ) (group : Group) (place : Place) (Last : MsId → Seg → Ground → List LaneEvent → Type 0) (g : Ground) (es : List LaneEvent) : Type 0 where
  pub id : MsId
  pub seg : Seg
  pub at : IsSegAt g.vdevs place.vdev place.offset place.size id seg
  pub turns : Then (λ g es. AreUnloaded group id g es) (Last id seg) g es

-- the segment was freed
abbrev pub IsFreed : ℕ → Group → Place → Ground → List LaneEvent → Type 0
IsFreed lane group place = IsFreeAt lane group place (λ id seg g. AtMetaslab (number_of g.vdevs id) (λ o h note. FreeAnswer lane group seg (Ok (record {})) o h note) g)

-- the places were freed in order
pub data AreFreed (lane : ℕ) (group : Group) (g : Ground) : List Place → List LaneEvent → Type 0 where
  none : AreFreed lane group g [] []
  more : (places : List Place) (place : Place) (es fs : List LaneEvent) → AreFreed lane group g places es → IsFreed lane group place g fs → AreFreed lane group g (places ++ place ∷ []) (es ++ fs)

-- the lowest unit of it that is not handed out in a group of at most the hold's lies there
pub record IsNotLiveAt (group : Group) (vdev offset : ℕ) (id : MsId) (seg : Seg) (g : Ground) (es : List LaneEvent) : Type 0 where
  pub unit : ℕ
  pub on : vdev ≡ id.vdev
  pub offset_is : offset ≡ offset_of g.vdevs id unit
  pub turn : AtMetaslab (number_of g.vdevs id) (λ o h note. (note ≡ None) × IsNotLive group (λ u. IsGrantedBy group.0 (last_act o h u)) seg unit o h) g es

-- why the next place was not freed, so many being freed before it
abbrev pub IsRefused : ℕ → Group → ℕ → Place → FreeFault → Ground → List LaneEvent → Type 0
IsRefused lane group freed place NoSuch g es = Misplaced g.vdevs place NoSuch × Nothing g es
IsRefused lane group freed place BadSeg g es = Misplaced g.vdevs place BadSeg × Nothing g es
IsRefused lane group freed place (NotLive before vdev offset) g es = (before ≡ freed) × IsFreeAt lane group place (λ id seg. IsNotLiveAt group vdev offset id seg) g es
IsRefused lane group freed place (Late asked collected) g es =
    IsFreeAt lane group place (λ id seg g. AtMetaslab (number_of g.vdevs id) (λ o h note. (note ≡ None) × IsLate group asked collected o h) g) g es
IsRefused lane group freed place (Device _ _) g es = IsFreeAt lane group place (λ id seg. IsUnloadedAt group id) g es
IsRefused lane group freed place (Damaged _ _) g es = IsFreeAt lane group place (λ id seg. IsUnloadedAt group id) g es
IsRefused lane group freed place (Suspended _) g es = IsFreeAt lane group place (λ id seg. IsUnloadedAt group id) g es
-- a last look, which noted nothing, behind those of what was not in memory
IsRefused lane group freed place (Memory before) g es = (before ≡ freed) × IsFreeAt lane group place (λ id seg g. AtMetaslab (number_of g.vdevs id) (λ o h note. note ≡ None) g) g es

-- how a free of one place ends, behind so many, and of some in order
abbrev pub PlaceLine : ℕ → Group → ℕ → Place → Result (Unit {0}) FreeFault → Ground → List LaneEvent → Type 0
PlaceLine lane group freed place (Ok _) g es = IsFreed lane group place g es
PlaceLine lane group freed place (Err fault) g es = IsRefused lane group freed place fault g es

-- the places before one were freed, and that one was refused
pub record IsRefusal (lane : ℕ) (group : Group) (places : List Place) (fault : FreeFault) (g : Ground) (es : List LaneEvent) : Type 0 where
  pub freed : List Place
  pub place : Place
  pub rest : List Place
  pub places_are : places ≡ freed ++ (place ∷ rest)
  pub turns : Then (λ g es. AreFreed lane group g freed es) (IsRefused lane group (length freed) place fault) g es

abbrev pub PlacesLine : ℕ → Group → List Place → Result (Unit {0}) FreeFault → Ground → List LaneEvent → Type 0
PlacesLine lane group places (Ok _) g es = AreFreed lane group g places es
PlacesLine lane group places (Err fault) g es = IsRefusal lane group places fault g es

-- the lane held the open group meanwhile, and answers it
abbrev pub FreeLine : ℕ → List Place → Result Group FreeFault → Ground → List LaneEvent → Type 0
FreeLine lane places (Ok group) g es = Holding group (λ g es. AreFreed lane group g places es) g es
FreeLine lane places (Err fault) g es = (group : Group) × Holding group (IsRefusal lane group places fault) g es

-- a load was refused, or memory ran out
abbrev pub IsLoadRefusal : ℕ → FreeFault → Type 0
IsLoadRefusal freed (Device _ _) = Unit {0}
IsLoadRefusal freed (Damaged _ _) = Unit {0}
IsLoadRefusal freed (Suspended _) = Unit {0}
IsLoadRefusal freed (Memory before) = before ≡ freed
IsLoadRefusal freed _ = ⊥
