-- The head of a pool of this store: one whose words lie whole.
use Rattle.std.specs.Prelude.{◌≡◌, ℕ, ◌<◌, List}
use Rattle.vdev_map.specs.Limits.{IsHead}
use Rattle.vdev_map.specs.declared.layout.Form.TheVariants.{Whole}
use Rattle.vdev_map.specs.declared.layout.Head.{Head}
use Rattle.vdev_map.specs.declared.layout.Layout.{Layout}
use Rattle.vdev_map.specs.declared.layout.Part.TheVariants.{Head as HeadPart}
use Rattle.uber_ring.specs.Heads.{HeadField, IsHeadOf, IsHeadRight, HasHeadDigest, ShowsHeadFault, head_place}
use Rattle.uber_ring.specs.Numbers.{bytes_at, number_at}
use Rattle.uber_ring.specs.declared.head.HeadFault.{HeadFault}
use Rattle.uber_ring.specs.declared.head.HeadFault.TheVariants.{HeadDamaged, Malformed}

-- the bytes of an image that its head is
abbrev pub head_bytes : List ℕ → List ℕ
head_bytes image = bytes_at image 0 64

-- the head of a pool of this layout
abbrev pub head_of : Layout → Head
head_of layout = record { form = Whole; flush = layout.flush; log = layout.log }

-- the bytes are this head, of version 0
pub record IsWholeHead (bytes : List ℕ) (head : Head) : Type 0 where
  pub is : IsHeadOf bytes head
  pub whole : head.form ≡ Whole

-- a head of version 0 that is within the limits
pub record IsWholeLimits (head : Head) : Type 0 where
  pub limits : IsHead head
  pub whole : head.form ≡ Whole

-- what a field may be: as in every head, and the version is 0
pub record IsFieldRight (bytes : List ℕ) (field : HeadField) : Type 0 where
  pub right : IsHeadRight bytes field
  pub version : field ≡ HeadField.version → number_at bytes 8 4 ≡ 0

-- the first field that is not as it should be begins at a byte
pub record IsFieldWrongAt (bytes : List ℕ) (at : ℕ) : Type 0 where
  pub field : HeadField
  pub begins : at ≡ head_place field
  pub broken : IsFieldRight bytes field → ⊥
  pub before : (other : HeadField) → head_place other < head_place field → IsFieldRight bytes other

-- why the bytes are no such head: the digest differs; or it is right, and the first wrong field begins at this byte
abbrev pub IsNoHead : List ℕ → HeadFault → Type 0
IsNoHead bytes (HeadDamaged kept found) = ShowsHeadFault bytes (HeadDamaged kept found)
IsNoHead bytes (Malformed part at) = (part ≡ HeadPart) × HasHeadDigest bytes × IsFieldWrongAt bytes at
