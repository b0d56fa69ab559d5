-- What a stop may leave while the next group is committed, and after it.
use Rattle.std.specs.Prelude.{◌≡◌, ℕ, ◌+◌, ◌≤◌, ◌⊎◌, List}
use Rattle.zms_dev.specs.Disk.{DiskState}
use Rattle.vdev_map.specs.declared.layout.Batch.{Batch}
use Rattle.uber_ring.specs.Slots.{IsValid}
use Rattle.uber_ring.specs.declared.slot.Uber.{Uber}
use Rattle.meta_store.specs.Batches.{after, AreBacked}
use Rattle.meta_store.specs.Groups.{Contents, Finds, HasNewest}

-- each group that could be read, and is at most two below this newest, can be read still, and finds what it found
abbrev pub KeepsGroups : ℕ → List ℕ → List ℕ → Type 0
KeepsGroups newest old image = (group : ℕ) (contents : Contents) → newest ≤ group + 2 → Finds old group contents → Finds image group contents

-- the group is the newest still, and each valid slot is one of before
pub record IsBefore (group : ℕ) (old image : List ℕ) : Type 0 where
  pub newest : HasNewest image group
  pub only : (uber : Uber) → IsValid image uber → IsValid old uber
  pub keeps : KeepsGroups group old image

-- the next group is the newest, and each other valid slot is one of before. Where the batches are backed by what the
-- group held, it holds that with the batches applied
pub record IsAfter (group : ℕ) (batches : List Batch) (old image : List ℕ) : Type 0 where
  pub newest : HasNewest image (group + 1)
  pub only : (uber : Uber) → IsValid image uber → (uber.group.0 ≡ group + 1) ⊎ IsValid old uber
  pub keeps : KeepsGroups (group + 1) old image
  pub finds : (contents : Contents) → Finds old group contents → AreBacked contents batches → Finds image (group + 1) (after contents batches)

-- an image that a stop in the middle may leave, and one after it
pub record IsBeforeOrAfter (disk : DiskState) (group : ℕ) (batches : List Batch) (image : List ℕ) : Type 0 where
  pub old : List ℕ
  pub was : disk.may_leave old
  pub either : IsBefore group old image ⊎ IsAfter group batches old image

pub record IsCommitted (disk : DiskState) (group : ℕ) (batches : List Batch) (image : List ℕ) : Type 0 where
  pub old : List ℕ
  pub was : disk.may_leave old
  pub after : IsAfter group batches old image
