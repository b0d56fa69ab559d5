-- The bytes of a table: 64 of its front, then 32 for each vdev, 48 for each log and 40 for each metaslab.
use Rattle.std.specs.Prelude.{◌≡◌, ℕ, ◌+◌, ◌*◌, ◌<◌, ◌≤◌, ◌==◌, if◌then◌else◌, List, length, map}
use Rattle.std.specs.List.{range_with_len}
use Rattle.zms_units.specs.declared.places.Class.{Class}
use Rattle.zms_units.specs.declared.places.Class.TheVariants.{Normal, Log, Special, Dedup}
use Rattle.zms_units.specs.declared.places.VdevRow.{VdevRow}
use Rattle.zms_dev.specs.Bytes.{byte}
use Rattle.vdev_map.specs.declared.table.LogRow.{LogRow}
use Rattle.vdev_map.specs.declared.table.MsRow.{MsRow}
use Rattle.vdev_map.specs.declared.table.Table.{Table}
use Rattle.uber_ring.specs.Numbers.{bytes_at, number_at}

-- how many vdevs, metaslabs and logs a table says that it has
abbrev pub vdev_count_in : List ℕ → ℕ
vdev_count_in bytes = number_at bytes 16 4

abbrev pub metaslab_count_in : List ℕ → ℕ
metaslab_count_in bytes = number_at bytes 20 4

abbrev pub log_count_in : List ℕ → ℕ
log_count_in bytes = number_at bytes 24 4

-- where the rows stand
abbrev pub vdev_at : ℕ → ℕ
vdev_at v = 64 + 32 * v

abbrev pub log_at : ℕ → ℕ → ℕ
log_at vdevs l = 64 + 32 * vdevs + 48 * l

abbrev pub row_at : ℕ → ℕ → ℕ → ℕ
row_at vdevs logs m = 64 + 32 * vdevs + 48 * logs + 40 * m

-- the length of a table with so many of each
abbrev pub table_len : ℕ → ℕ → ℕ → ℕ
table_len vdevs logs metaslabs = 64 + 32 * vdevs + 48 * logs + 40 * metaslabs

-- the number of a class, and the class of a number
abbrev pub class_number : Class → ℕ
class_number Normal = 0
class_number Log = 1
class_number Special = 2
class_number Dedup = 3

abbrev pub class_of : ℕ → Class
class_of n = if n == 0 then Normal else (if n == 1 then Log else (if n == 2 then Special else Dedup))

-- the row that the bytes from a place on say
abbrev pub vdev_row_in : List ℕ → ℕ → VdevRow
vdev_row_in bytes at = record { class = class_of (number_at bytes at 4); ashift = number_at bytes (at + 4) 4; units = number_at bytes (at + 8) 4; metaslabs = number_at bytes (at + 12) 4 }

abbrev pub log_row_in : List ℕ → ℕ → LogRow
log_row_in bytes at = record { group = record { 0 = number_at bytes at 8 }; words = number_at bytes (at + 8) 8; digest = bytes_at bytes (at + 16) 32 }

abbrev pub ms_row_in : List ℕ → ℕ → MsRow
ms_row_in bytes at = record {
  place = number_at bytes at 8;
  words = number_at bytes (at + 8) 8;
  unflushed = record { 0 = number_at bytes (at + 16) 8 };
  held = number_at bytes (at + 24) 8;
  side = number_at bytes (at + 32) 4;
}

-- the rows that the bytes say, in order
unfoldable pub vdevs_in : List ℕ → List VdevRow
vdevs_in bytes = map (λ v. vdev_row_in bytes (vdev_at v)) (range_with_len 0 (vdev_count_in bytes))

unfoldable pub logs_in : List ℕ → List LogRow
logs_in bytes = map (λ l. log_row_in bytes (log_at (vdev_count_in bytes) l)) (range_with_len 0 (log_count_in bytes))

unfoldable pub rows_in : List ℕ → List MsRow
rows_in bytes = map (λ m. ms_row_in bytes (row_at (vdev_count_in bytes) (log_count_in bytes) m)) (range_with_len 0 (metaslab_count_in bytes))

-- the table that the bytes say, whether or not they are right
abbrev pub table_in : List ℕ → Table
table_in bytes = record { group = record { 0 = number_at bytes 8 8 }; vdevs = vdevs_in bytes; logs = logs_in bytes; rows = rows_in bytes }

-- n zeros from a place on
abbrev pub AreZeros : List ℕ → ℕ → ℕ → Type 0
AreZeros bytes at n = (k : ℕ) → at ≤ k → k < at + n → byte bytes k ≡ 0

-- the bytes are as many as the counts say
abbrev pub HasItsLength : List ℕ → Type 0
HasItsLength bytes = length bytes ≡ table_len (vdev_count_in bytes) (log_count_in bytes) (metaslab_count_in bytes)
