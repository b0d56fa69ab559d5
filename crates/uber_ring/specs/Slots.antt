-- Ring slots: what their bytes mean, and which uberblocks an image has.
use Rattle.std.specs.Prelude.{◌≡◌, ℕ, ◌<◌, ◌≤◌, List, Option, MatchOption}
use Rattle.sha2.specs.Sha256.{sha256}
use Rattle.zms_dev.specs.Bytes.{byte}
use Rattle.vdev_map.specs.Places.{slot_place}
use Rattle.vdev_map.specs.Tables.{IsGroup}
use Rattle.uber_ring.specs.Numbers.{bytes_at, number_at}
use Rattle.uber_ring.specs.declared.slot.Uber.{Uber}

-- what a valid slot may say
pub record IsUber (uber : Uber) : Type 0 where
  pub version : uber.version ≡ 1
  pub group : IsGroup uber.group.0
  pub table_len : uber.table_len ≤ 262144

-- the first 64 bytes of a slot: magic, version, group, and the length and digest of the table
pub record HasFields (bytes : List ℕ) (uber : Uber) : Type 0 where
  pub magic : number_at bytes 0 8 ≡ 0x00bab10c
  pub version : number_at bytes 8 8 ≡ uber.version
  pub group : number_at bytes 16 8 ≡ uber.group.0
  pub table_len : number_at bytes 24 8 ≡ uber.table_len
  pub table_digest : bytes_at bytes 32 32 ≡ uber.table_digest

-- all that a slot says, which its gate does not
pub record IsBody (bytes : List ℕ) (uber : Uber) : Type 0 where
  pub fields : HasFields bytes uber
  pub digest : bytes_at bytes 64 32 ≡ sha256 (bytes_at bytes 0 64)

-- the gate byte of a slot, which is its last, is open
abbrev pub IsOpen : List ℕ → Type 0
IsOpen bytes = byte bytes 1023 ≡ 0xB1

-- the 1024 bytes of a slot are valid with an uberblock
pub record IsValidSlot (bytes : List ℕ) (uber : Uber) : Type 0 where
  pub gate : IsOpen bytes
  pub body : IsBody bytes uber
  pub limits : IsUber uber

-- in the image the slot of an uberblock's group is valid with it
abbrev pub IsValid : List ℕ → Uber → Type 0
IsValid image uber = IsValidSlot (bytes_at image (slot_place uber.group.0) 1024) uber

-- no slot of the image is valid
abbrev pub HasNone : List ℕ → Type 0
HasNone image = (uber : Uber) → IsValid image uber → ⊥

-- the valid uberblock of the greatest group
pub record IsNewest (image : List ℕ) (uber : Uber) : Type 0 where
  pub valid : IsValid image uber
  pub greatest : (other : Uber) → IsValid image other → other.group.0 ≤ uber.group.0

-- the newest uberblock of the image, if it has any
abbrev pub NewestOf : List ℕ → Option Uber → Type 0
NewestOf image found = MatchOption found (HasNone image) (IsNewest image)

-- the valid uberblock among those with P, of which there is at most one
abbrev pub TheValid : List ℕ → (Uber → Type 0) → Option Uber → Type 0
TheValid image P found = MatchOption found ((uber : Uber) → P uber → IsValid image uber → ⊥) (λ uber. P uber × IsValid image uber)

-- behind its fields and digest a slot has zeros up to its gate
abbrev pub HasZeros : List ℕ → Type 0
HasZeros bytes = (k : ℕ) → 96 ≤ k → k < 1023 → byte bytes k ≡ 0
