-- The fields of a table in the order of their bytes, and what each may be.
use Rattle.std.specs.Prelude.{◌≡◌, ◌↔◌, IsTrue, ℕ, ◌+◌, ◌<◌, ◌≤◌, List, [], ◌∷◌, ◌++◌, length, codes}
use Rattle.std.specs.List.{flat_map, range_with_len}
use Rattle.sha2.specs.Sha256.{sha256}
use Rattle.vdev_map.specs.Limits.{IsVdevCount, HasNormal, IsShift}
use Rattle.vdev_map.specs.Numbers as Vdevs
use Rattle.vdev_map.specs.Places.{table_place}
use Rattle.vdev_map.specs.Tables.{ms_row_at, HasItsLogs, AreUnitsOf, IsLogGroup, IsLogWords, IsPlace, IsWords, IsUnflushed, IsHeld, IsSide}
use Rattle.vdev_map.specs.declared.layout.Head.{Head}
use Rattle.vdev_map.specs.declared.layout.Part.TheVariants.{Table as TablePart}
use Rattle.vdev_map.specs.declared.table.Table.{Table}
use Rattle.uber_ring.specs.Numbers.{bytes_at, number_at}
use Rattle.uber_ring.specs.TableBytes.{vdev_count_in, log_count_in, metaslab_count_in, vdev_at, log_at, row_at, vdevs_in, table_in, AreZeros, HasItsLength}
use Rattle.uber_ring.specs.declared.front.Counts.{Counts}
use Rattle.uber_ring.specs.declared.faults.TableFault.{TableFault}
use Rattle.uber_ring.specs.declared.faults.TableFault.TheVariants.{Failed, Memory, TableDamaged, Malformed}
use Rattle.uber_ring.specs.declared.slot.Uber.{Uber}

-- a field: of the front, of a vdev's row, of a log's row, or of a metaslab's row
pub data Field : Type 0 where
  text : Field
  group : Field
  vdev_count : Field
  metaslab_count : Field
  log_count : Field
  front_zeros : Field
  class_ : ℕ → Field
  ashift : ℕ → Field
  units : ℕ → Field
  metaslabs : ℕ → Field
  vdev_zeros : ℕ → Field
  log_group : ℕ → Field
  log_words : ℕ → Field
  place : ℕ → Field
  words : ℕ → Field
  unflushed : ℕ → Field
  held : ℕ → Field
  side : ℕ → Field
  row_zeros : ℕ → Field

-- the byte at which a field begins
abbrev pub field_place : List ℕ → Field → ℕ
field_place bytes text = 0
field_place bytes group = 8
field_place bytes vdev_count = 16
field_place bytes metaslab_count = 20
field_place bytes log_count = 24
field_place bytes front_zeros = 28
field_place bytes (class_ v) = vdev_at v
field_place bytes (ashift v) = vdev_at v + 4
field_place bytes (units v) = vdev_at v + 8
field_place bytes (metaslabs v) = vdev_at v + 12
field_place bytes (vdev_zeros v) = vdev_at v + 16
field_place bytes (log_group l) = log_at (vdev_count_in bytes) l
field_place bytes (log_words l) = log_at (vdev_count_in bytes) l + 8
field_place bytes (place m) = row_at (vdev_count_in bytes) (log_count_in bytes) m
field_place bytes (words m) = row_at (vdev_count_in bytes) (log_count_in bytes) m + 8
field_place bytes (unflushed m) = row_at (vdev_count_in bytes) (log_count_in bytes) m + 16
field_place bytes (held m) = row_at (vdev_count_in bytes) (log_count_in bytes) m + 24
field_place bytes (side m) = row_at (vdev_count_in bytes) (log_count_in bytes) m + 32
field_place bytes (row_zeros m) = row_at (vdev_count_in bytes) (log_count_in bytes) m + 36

-- the fields in the order in which they stand
abbrev pub front_fields : List Field
front_fields = text ∷ group ∷ vdev_count ∷ metaslab_count ∷ log_count ∷ front_zeros ∷ []

abbrev pub vdev_fields : ℕ → List Field
vdev_fields v = class_ v ∷ ashift v ∷ units v ∷ metaslabs v ∷ vdev_zeros v ∷ []

abbrev pub log_fields : ℕ → List Field
log_fields l = log_group l ∷ log_words l ∷ []

abbrev pub row_fields : ℕ → List Field
row_fields m = place m ∷ words m ∷ unflushed m ∷ held m ∷ side m ∷ row_zeros m ∷ []

abbrev pub fields_in : List ℕ → List Field
fields_in bytes =
    front_fields
    ++ (flat_map vdev_fields (range_with_len 0 (vdev_count_in bytes))
    ++ (flat_map log_fields (range_with_len 0 (log_count_in bytes))
    ++ flat_map row_fields (range_with_len 0 (metaslab_count_in bytes))))

-- what a field of the table of an uberblock may be. That a vdev is normal, that there is a row for each metaslab, and
-- which logs there are, is asked where the length is right
abbrev pub IsRight : Head → Uber → List ℕ → Field → Type 0
IsRight head uber bytes text = (64 ≤ length bytes) × (bytes_at bytes 0 8 ≡ codes "ZMSTABLE")
IsRight head uber bytes group = number_at bytes 8 8 ≡ uber.group.0
IsRight head uber bytes vdev_count = IsVdevCount (vdev_count_in bytes) × (HasItsLength bytes → HasNormal (vdevs_in bytes))
IsRight head uber bytes metaslab_count = (metaslab_count_in bytes ≤ 1024) × (HasItsLength bytes → metaslab_count_in bytes ≡ Vdevs.metaslabs_in (vdevs_in bytes))
IsRight head uber bytes log_count = HasItsLength bytes × HasItsLogs (table_in bytes)
IsRight head uber bytes front_zeros = AreZeros bytes 28 36
IsRight head uber bytes (class_ v) = number_at bytes (vdev_at v) 4 < 4
IsRight head uber bytes (ashift v) = IsShift (number_at bytes (vdev_at v + 4) 4)
IsRight head uber bytes (units v) = AreUnitsOf (vdevs_in bytes) v
IsRight head uber bytes (metaslabs v) = 1 ≤ number_at bytes (vdev_at v + 12) 4
IsRight head uber bytes (vdev_zeros v) = AreZeros bytes (vdev_at v + 16) 16
IsRight head uber bytes (log_group l) = IsLogGroup (table_in bytes) l
IsRight head uber bytes (log_words l) = IsLogWords head (table_in bytes) l
IsRight head uber bytes (place m) = IsPlace head (table_in bytes) m
IsRight head uber bytes (words m) = IsWords head (table_in bytes) m
IsRight head uber bytes (unflushed m) = IsUnflushed head uber.group.0 (ms_row_at (table_in bytes) m).unflushed.0
IsRight head uber bytes (held m) = IsHeld (table_in bytes) m
IsRight head uber bytes (side m) = IsSide head (ms_row_at (table_in bytes) m).side
IsRight head uber bytes (row_zeros m) = AreZeros bytes (row_at (vdev_count_in bytes) (log_count_in bytes) m + 36) 4

-- each field of a list has P
abbrev pub Each : (Field → Type 0) → List Field → Type 0
Each P [] = Unit {0}
Each P (field ∷ fields) = P field × Each P fields

-- the first field of a list that lacks P
pub record IsFirstWrong (P : Field → Type 0) (fields : List Field) (field : Field) : Type 0 where
  pub before : List Field
  pub after : List Field
  pub split : fields ≡ before ++ field ∷ after
  pub held : Each P before
  pub broken : P field → ⊥

-- the first field of a list that lacks P begins at a byte
pub record IsWrongAt (P : Field → Type 0) (bytes : List ℕ) (fields : List Field) (at : ℕ) : Type 0 where
  pub field : Field
  pub first : IsFirstWrong P fields field
  pub begins : at ≡ field_place bytes field

-- the bytes that an uberblock names as its table
abbrev pub table_bytes : List ℕ → Uber → List ℕ
table_bytes image uber = bytes_at image (table_place uber.group.0) uber.table_len

-- the image has this table for an uberblock: the digest is right, and so is each field
pub record HasTable (image : List ℕ) (head : Head) (uber : Uber) (table : Table) : Type 0 where
  pub digest : sha256 (table_bytes image uber) ≡ uber.table_digest
  pub right : Each (IsRight head uber (table_bytes image uber)) (fields_in (table_bytes image uber))
  pub is : table ≡ table_in (table_bytes image uber)

-- why bytes are not the table of an uberblock: their digest differs; or it is right, and the first wrong field begins
-- at this byte; or want of memory, which is free
abbrev pub ShowsFault : Head → Uber → List ℕ → TableFault → Type 0
ShowsFault head uber bytes Failed = ⊥
ShowsFault head uber bytes Memory = Unit {0}
ShowsFault head uber bytes (TableDamaged of_group kept found) =
    (of_group ≡ uber.group) × (kept ≡ uber.table_digest) × (found ≡ sha256 bytes) × (found ≡ kept → ⊥)
ShowsFault head uber bytes (Malformed part at) =
    (part ≡ TablePart) × (sha256 bytes ≡ uber.table_digest) × IsWrongAt (IsRight head uber bytes) bytes (fields_in bytes) at

-- why the image has no table for an uberblock, or was not read: of a device that failed its count of faults tells
abbrev pub HasTableFault : List ℕ → Head → Uber → TableFault → Type 0
HasTableFault image head uber Failed = Unit {0}
HasTableFault image head uber Memory = Unit {0}
HasTableFault image head uber (TableDamaged of_group kept found) = ShowsFault head uber (table_bytes image uber) (TableDamaged of_group kept found)
HasTableFault image head uber (Malformed part at) = ShowsFault head uber (table_bytes image uber) (Malformed part at)

-- a fault that says where the first wrong field of a list begins, or want of memory
abbrev pub IsWrongIn : (Field → Type 0) → List ℕ → List Field → TableFault → Type 0
IsWrongIn P bytes fields Failed = ⊥
IsWrongIn P bytes fields Memory = Unit {0}
IsWrongIn P bytes fields (TableDamaged of_group kept found) = ⊥
IsWrongIn P bytes fields (Malformed part at) = (part ≡ TablePart) × IsWrongAt P bytes fields at

-- all fields of a table are as they should be
abbrev pub IsAllRight : Head → Uber → List ℕ → Type 0
IsAllRight head uber bytes = Each (IsRight head uber bytes) (fields_in bytes)

-- so many of each, as the front of a table says, and whether they make up its length
pub record AreCounts (bytes : List ℕ) (counts : Counts) : Type 0 where
  pub vdevs : counts.vdevs ≡ vdev_count_in bytes
  pub logs : counts.logs ≡ log_count_in bytes
  pub metaslabs : counts.metaslabs ≡ metaslab_count_in bytes
  pub whole : IsTrue counts.is_whole ↔ HasItsLength bytes
