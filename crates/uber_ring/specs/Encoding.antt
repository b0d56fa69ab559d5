-- The bytes that a table is written as.
use Rattle.std.specs.Prelude.{◌≡◌, ℕ, ◌+◌, ◌*◌, ◌<◌, ◌⊎◌, List, length, codes}
use Rattle.zms_units.specs.declared.places.VdevRow.{VdevRow}
use Rattle.zms_dev.specs.Bytes.{byte, Outside}
use Rattle.sha2.specs.Sha256.{sha256}
use Rattle.vdev_map.specs.Numbers.{row_at}
use Rattle.vdev_map.specs.Places.{table_place}
use Rattle.vdev_map.specs.Tables.{log_row_at, ms_row_at}
use Rattle.vdev_map.specs.declared.table.LogRow.{LogRow}
use Rattle.vdev_map.specs.declared.table.MsRow.{MsRow}
use Rattle.vdev_map.specs.declared.table.Table.{Table}
use Rattle.uber_ring.specs.Numbers.{bytes_at, number_at}
use Rattle.uber_ring.specs.TableBytes.{class_number, table_len, AreZeros}
use Rattle.uber_ring.specs.declared.faults.TableFault.{TableFault}
use Rattle.uber_ring.specs.declared.faults.TableFault.TheVariants.{Failed, Memory}
use Rattle.uber_ring.specs.declared.slot.Uber.{Uber}

-- how many bytes a table has
abbrev pub len_of : Table → ℕ
len_of table = table_len (length table.vdevs) (length table.logs) (length table.rows)

-- only the n bytes from a place on changed
pub record Changes (old new : List ℕ) (at n : ℕ) : Type 0 where
  pub len : length new ≡ length old
  pub outside : (p : ℕ) → Outside at n p → byte new p ≡ byte old p

-- the row of a vdev stands at a place
pub record IsVdevAt (bytes : List ℕ) (at : ℕ) (row : VdevRow) : Type 0 where
  pub class_ : number_at bytes at 4 ≡ class_number row.class
  pub ashift : number_at bytes (at + 4) 4 ≡ row.ashift
  pub units : number_at bytes (at + 8) 4 ≡ row.units
  pub metaslabs : number_at bytes (at + 12) 4 ≡ row.metaslabs
  pub zeros : AreZeros bytes (at + 16) 16

-- the row of a log
pub record IsLogAt (bytes : List ℕ) (at : ℕ) (row : LogRow) : Type 0 where
  pub group : number_at bytes at 8 ≡ row.group.0
  pub words : number_at bytes (at + 8) 8 ≡ row.words
  pub digest : bytes_at bytes (at + 16) 32 ≡ row.digest

-- the row of a metaslab
pub record IsMsRowAt (bytes : List ℕ) (at : ℕ) (row : MsRow) : Type 0 where
  pub place : number_at bytes at 8 ≡ row.place
  pub words : number_at bytes (at + 8) 8 ≡ row.words
  pub unflushed : number_at bytes (at + 16) 8 ≡ row.unflushed.0
  pub held : number_at bytes (at + 24) 8 ≡ row.held
  pub side : number_at bytes (at + 32) 4 ≡ row.side
  pub zeros : AreZeros bytes (at + 36) 4

-- the front of a table
pub record IsFrontOf (bytes : List ℕ) (group vdevs metaslabs logs : ℕ) : Type 0 where
  pub text : bytes_at bytes 0 8 ≡ codes "ZMSTABLE"
  pub group_is : number_at bytes 8 8 ≡ group
  pub vdev_count : number_at bytes 16 4 ≡ vdevs
  pub metaslab_count : number_at bytes 20 4 ≡ metaslabs
  pub log_count : number_at bytes 24 4 ≡ logs
  pub zeros : AreZeros bytes 28 36

-- the bytes of a table
pub record IsEncoded (bytes : List ℕ) (table : Table) : Type 0 where
  pub len : length bytes ≡ len_of table
  pub front : IsFrontOf bytes table.group.0 (length table.vdevs) (length table.rows) (length table.logs)
  pub vdevs : (v : ℕ) → v < length table.vdevs → IsVdevAt bytes (64 + 32 * v) (row_at table.vdevs v)
  pub logs : (l : ℕ) → l < length table.logs → IsLogAt bytes (64 + 32 * length table.vdevs + 48 * l) (log_row_at table l)
  pub rows : (m : ℕ) → m < length table.rows → IsMsRowAt bytes (64 + 32 * length table.vdevs + 48 * length table.logs + 40 * m) (ms_row_at table m)

-- the uberblock that names a table
pub record Names (uber : Uber) (table : Table) : Type 0 where
  pub group : uber.group ≡ table.group
  pub version : uber.version ≡ 1
  pub table_len : uber.table_len ≡ len_of table

-- the digest that an uberblock names is that of the bytes of a table
pub record HasDigestOf (uber : Uber) (table : Table) : Type 0 where
  pub bytes : List ℕ
  pub encoded : IsEncoded bytes table
  pub digest : sha256 bytes ≡ uber.table_digest

-- the image has the bytes of a table where an uberblock names them, and their digest is the one that it names
pub record IsWrittenAs (image : List ℕ) (uber : Uber) (table : Table) : Type 0 where
  pub bytes : IsEncoded (bytes_at image (table_place uber.group.0) uber.table_len) table
  pub digest : sha256 (bytes_at image (table_place uber.group.0) uber.table_len) ≡ uber.table_digest

-- a device that failed, or want of memory
abbrev pub IsFailure : TableFault → Type 0
IsFailure fault = (fault ≡ Failed) ⊎ (fault ≡ Memory)
