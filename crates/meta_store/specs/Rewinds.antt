-- What a stop may leave while the opened group is made the only one.
use Rattle.std.specs.Prelude.{◌≡◌, ◌≢◌, ℕ, ◌+◌, ◌%◌, ◌<◌, ◌≤◌, ◌⊎◌, ◌==◌, not, Bool, false, List, [], ◌∷◌, ◌++◌, length, Option, None, Some, IfSome, MatchOption, slice_index_or, count_by}
use Rattle.zms_units.specs.declared.segments.Group.{Group}
use Rattle.zms_dev.specs.Bytes.{byte, Outside}
use Rattle.zms_dev.specs.Disk.{DiskState, Tells, bytes_of, Only}
use Rattle.vdev_map.specs.Places.{slot_place}
use Rattle.uber_ring.specs.Slots.{IsValid}
use Rattle.uber_ring.specs.declared.slot.Uber.{Uber}
use Rattle.meta_store.specs.Kept.{IsKept}

-- a group keeps what it has before the old image's end
abbrev pub KeepsPlaces : List ℕ → List ℕ → Uber → Type 0
KeepsPlaces old image uber = (p : ℕ) → IsKept old uber p → p < length old → byte image p ≡ byte old p

-- the opened group is valid, no group is that was not before, and what each valid group names is as it was
pub record IsRewinding (opened : Uber) (old image : List ℕ) : Type 0 where
  pub valid : IsValid image opened
  pub no_more : (uber : Uber) → IsValid image uber → IsValid old uber
  pub keeps : (uber : Uber) → IsValid image uber → KeepsPlaces old image uber

-- and it is the only valid one
pub record IsRewound (opened : Uber) (old image : List ℕ) : Type 0 where
  pub run : IsRewinding opened old image
  pub only : (uber : Uber) → IsValid image uber → uber ≡ opened

-- the group with which a slot is valid, if it is
abbrev pub SlotGroup : List ℕ → ℕ → Option Group → Type 0
SlotGroup image slot found =
    MatchOption found ((uber : Uber) → uber.group.0 % 128 ≡ slot → IsValid image uber → ⊥)
    (λ group. (group.0 % 128 ≡ slot) × ((uber : Uber) × ((uber.group ≡ group) × IsValid image uber)))

-- the groups of the first n slots
abbrev pub IsRing : List ℕ → List (Option Group) → ℕ → Type 0
IsRing image groups n = (slot : ℕ) → slot < n → SlotGroup image slot (slice_index_or groups slot None)

-- each of the first n groups stands at the number of its slot
abbrev pub ArePlaced : List (Option Group) → ℕ → Type 0
ArePlaced groups n = (slot : ℕ) → slot < n → IfSome (slice_index_or groups slot None) (λ group. group.0 % 128 ≡ slot)

-- between two closings: all that is read is flushed, and the list has the groups of the valid slots
pub record IsTurned (opened : Uber) (start : List ℕ) (disk : DiskState) (groups : List (Option Group)) : Type 0 where
  pub tells : Tells disk
  pub flushed : Only (bytes_of disk) disk.may_leave
  pub no_shorter : length start ≤ length (bytes_of disk)
  pub run : IsRewinding opened start (bytes_of disk)
  pub ring : IsRing (bytes_of disk) groups 128

-- the slot of another group is to be closed
pub record IsTurning (opened : Uber) (start : List ℕ) (disk : DiskState) (groups : List (Option Group)) (group : Group) : Type 0 where
  pub turned : IsTurned opened start disk groups
  pub long : 135168 ≤ length start
  pub other : group ≢ opened.group
  pub entry : slice_index_or groups (group.0 % 128) None ≡ Some group

-- all that is read is flushed, the opened group has a valid slot, and the ring lies before the end
pub record IsRewindable (opened : Uber) (disk : DiskState) : Type 0 where
  pub flushed : Only (bytes_of disk) disk.may_leave
  pub valid : IsValid (bytes_of disk) opened
  pub long : 135168 ≤ length (bytes_of disk)

-- all others are closed
pub record IsTurnedLast (opened : Uber) (start : List ℕ) (disk : DiskState) : Type 0 where
  pub flushed : Only (bytes_of disk) disk.may_leave
  pub no_shorter : length start ≤ length (bytes_of disk)
  pub rewound : IsRewound opened start (bytes_of disk)

-- flushes were noted, or none
pub record Adds (old new : DiskState) : Type 0 where
  pub more : List ℕ
  pub noted : new.flushes ≡ old.flushes ++ more

-- a flush succeeded
pub record HasFlush (old new : DiskState) : Type 0 where
  pub moment : ℕ
  pub rest : List ℕ
  pub noted : new.flushes ≡ old.flushes ++ moment ∷ rest

-- does a slot have a group other than this one?
abbrev pub is_other : Group → Option Group → Bool
is_other opened None = false
is_other opened (Some group) = not (group.0 == opened.0)

-- how many groups of the ring are others than this one
abbrev pub others_in : List (Option Group) → Group → ℕ
others_in groups opened = count_by (is_other opened) groups

-- this is the moment of the flush behind which the opened group is the only valid one, told by its number: the first flush
-- comes before anything is closed, and one comes behind each closing
pub record EndsAt (opened : Uber) (old new : DiskState) (moment : ℕ) : Type 0 where
  pub groups : List (Option Group)
  pub slots : length groups ≡ 128
  pub ring : IsRing (bytes_of old) groups 128
  pub before : List ℕ
  pub many : length before ≡ others_in groups opened.group
  pub rest : List ℕ
  pub noted : new.flushes ≡ old.flushes ++ (before ++ moment ∷ rest)

-- and from then on each image is one of the rewound device
pub record EndsRewound (opened : Uber) (old new : DiskState) : Type 0 where
  pub moment : ℕ
  pub ends : EndsAt opened old new moment
  pub early : moment ≤ new.moment
  pub since : (c : List ℕ) → new.left_since moment c → IsRewound opened (bytes_of old) c

-- so many flushes succeeded, the last of them at this moment
abbrev pub HasClosed : ℕ → DiskState → DiskState → Type 0
HasClosed n old new =
    ((n ≡ 0) × (new.flushes ≡ old.flushes)) ⊎ ((before : List ℕ) × ((length before + 1 ≡ n) × (new.flushes ≡ old.flushes ++ (before ++ new.moment ∷ []))))

-- one flush for each group of the ring but the opened one
pub record ClosesOthers (opened : Group) (old new : DiskState) : Type 0 where
  pub groups : List (Option Group)
  pub slots : length groups ≡ 128
  pub ring : IsRing (bytes_of old) groups 128
  pub closed : HasClosed (others_in groups opened) old new

-- a place that is not the gate of any slot
abbrev pub IsNoGate : ℕ → Type 0
IsNoGate p = (slot : ℕ) → Outside (slot_place slot + 1023) 1 p
