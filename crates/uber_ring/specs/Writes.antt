-- What the writes of a slot may leave.
use Rattle.std.specs.Prelude.{◌≡◌, ◌≢◌, ℕ, ◌+◌, ◌%◌, ◌<◌, ◌≤◌, ◌⊎◌, List, ◌++◌, length}
use Rattle.zms_dev.specs.Bytes.{byte}
use Rattle.zms_dev.specs.Disk.{DiskState, bytes_of, Only}
use Rattle.zms_dev.specs.Runs.{Kept}
use Rattle.vdev_map.specs.Places.{slot_place}
use Rattle.uber_ring.specs.Numbers.{bytes_at}
use Rattle.uber_ring.specs.Slots.{IsBody, IsValidSlot, IsValid, HasZeros}
use Rattle.uber_ring.specs.declared.slot.Uber.{Uber}

-- the place is one of the n from `at` on
abbrev pub Within : ℕ → ℕ → ℕ → Type 0
Within at n p = (at ≤ p) × (p < at + n)

-- each image that a stop now may leave has the n bytes from `at` on, as they are read
abbrev pub HasFlushed : DiskState → ℕ → ℕ → Type 0
HasFlushed disk at n = Kept disk (Within at n) (bytes_of disk)

-- where the slot of the uberblock's group is valid, it is so with this uberblock, or with the one that it was valid
-- with before
abbrev pub IsOldOrNew : List ℕ → Uber → List ℕ → Type 0
IsOldOrNew old uber image =
    (found : Uber) → found.group.0 % 128 ≡ uber.group.0 % 128 → IsValid image found → (found ≡ uber) ⊎ IsValid old found

-- the slot of the uberblock's group is valid with it, with zeros behind its digest
pub record IsWritten (image : List ℕ) (uber : Uber) : Type 0 where
  pub valid : IsValid image uber
  pub zeros : HasZeros (bytes_at image (slot_place uber.group.0) 1024)

-- a run of at most so many flushes
pub record Flushes (most : ℕ) (old new : DiskState) : Type 0 where
  pub more : List ℕ
  pub few : length more ≤ most
  pub noted : new.flushes ≡ old.flushes ++ more

-- where the slot at a place is valid, it is so with what it was valid with before
abbrev pub IsOld : ℕ → List ℕ → List ℕ → Type 0
IsOld at old image = (found : Uber) → IsValidSlot (bytes_at image at 1024) found → IsValidSlot (bytes_at old at 1024) found

-- the slot at a place is not valid
abbrev pub IsNotValid : ℕ → List ℕ → Type 0
IsNotValid at image = (found : Uber) → IsValidSlot (bytes_at image at 1024) found → ⊥

-- where the slot at a place is valid, it is so with this uberblock
abbrev pub IsNew : ℕ → Uber → List ℕ → Type 0
IsNew at uber image = (found : Uber) → IsValidSlot (bytes_at image at 1024) found → found ≡ uber

-- the gate of the slot at a place is closed at each stop
pub record IsShut (disk : DiskState) (at : ℕ) : Type 0 where
  pub flushed : HasFlushed disk (at + 1023) 1
  pub closed : byte (bytes_of disk) (at + 1023) ≢ 0xB1

-- the slot at a place has all that it is to say, and all that is read is flushed
pub record IsFilled (disk : DiskState) (at : ℕ) (uber : Uber) : Type 0 where
  pub flushed : Only (bytes_of disk) disk.may_leave
  pub long : at + 1023 ≤ length (bytes_of disk)
  pub body : IsBody (bytes_at (bytes_of disk) at 1024) uber
  pub zeros : HasZeros (bytes_at (bytes_of disk) at 1024)
