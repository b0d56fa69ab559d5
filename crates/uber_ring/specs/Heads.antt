-- The head of a pool: what its first 64 bytes mean.
use Rattle.std.specs.Prelude.{◌≡◌, ℕ, ◌<◌, ◌≤◌, List, codes}
use Rattle.sha2.specs.Sha256.{sha256}
use Rattle.vdev_map.specs.Limits.{IsFlush, IsLog, IsHead}
use Rattle.vdev_map.specs.declared.layout.Form.{Form}
use Rattle.vdev_map.specs.declared.layout.Form.TheVariants.{Whole, Logged}
use Rattle.vdev_map.specs.declared.layout.Head.{Head}
use Rattle.vdev_map.specs.declared.layout.Part.TheVariants.{Head as HeadPart}
use Rattle.uber_ring.specs.Numbers.{bytes_at, number_at}
use Rattle.uber_ring.specs.TableBytes.{AreZeros}
use Rattle.uber_ring.specs.declared.head.HeadFault.{HeadFault}
use Rattle.uber_ring.specs.declared.head.HeadFault.TheVariants.{HeadDamaged, Malformed}

-- the version of a head says the form of its pool
abbrev pub version_of : Form → ℕ
version_of Whole = 0
version_of Logged = 1

-- the digest of the first 32 bytes stands behind them
abbrev pub HasHeadDigest : List ℕ → Type 0
HasHeadDigest bytes = bytes_at bytes 32 32 ≡ sha256 (bytes_at bytes 0 32)

-- the 64 bytes are this head
pub record IsHeadOf (bytes : List ℕ) (head : Head) : Type 0 where
  pub text : bytes_at bytes 0 8 ≡ codes "ZMSPOOL1"
  pub version : number_at bytes 8 4 ≡ version_of head.form
  pub flush : number_at bytes 12 4 ≡ head.flush
  pub log : number_at bytes 16 4 ≡ head.log
  pub zeros : AreZeros bytes 20 12
  pub digest : HasHeadDigest bytes
  pub limits : IsHead head

-- the fields of a head, where each begins, and what it may be
pub data HeadField : Type 0 where
  text : HeadField
  version : HeadField
  flush : HeadField
  log : HeadField
  zeros : HeadField

abbrev pub head_place : HeadField → ℕ
head_place text = 0
head_place version = 8
head_place flush = 12
head_place log = 16
head_place zeros = 20

abbrev pub IsHeadRight : List ℕ → HeadField → Type 0
IsHeadRight bytes text = bytes_at bytes 0 8 ≡ codes "ZMSPOOL1"
IsHeadRight bytes version = number_at bytes 8 4 ≤ 1
IsHeadRight bytes flush = IsFlush (number_at bytes 12 4)
IsHeadRight bytes log = IsLog (number_at bytes 16 4)
IsHeadRight bytes zeros = AreZeros bytes 20 12

-- the first field that is not as it should be begins at a byte
pub record IsHeadWrongAt (bytes : List ℕ) (at : ℕ) : Type 0 where
  pub field : HeadField
  pub begins : at ≡ head_place field
  pub broken : IsHeadRight bytes field → ⊥
  pub before : (other : HeadField) → head_place other < head_place field → IsHeadRight bytes other

-- why the bytes are not a head: the digest differs; or it is right, and the first wrong field begins at this byte
abbrev pub ShowsHeadFault : List ℕ → HeadFault → Type 0
ShowsHeadFault bytes (HeadDamaged kept found) =
    (kept ≡ bytes_at bytes 32 32) × (found ≡ sha256 (bytes_at bytes 0 32)) × (found ≡ kept → ⊥)
ShowsHeadFault bytes (Malformed part at) = (part ≡ HeadPart) × HasHeadDigest bytes × IsHeadWrongAt bytes at
