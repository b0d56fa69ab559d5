-- What was encoded is what is read.
use Rattle.std.proofs.Common.{◌≡◌, ℕ, ◌+◌, ◌<◌, List, [], ◌++◌, length, sym, ◌∙◌, ap, subst, arith}
use Rattle.std.specs.List.{flat_map, range_with_len}
use Rattle.std.proofs.lemmas.List.{ext_get_or}
use Rattle.sha2.specs.Sha256.{sha256}
use Rattle.zms_units.specs.declared.places.Class.{Class}
use Rattle.zms_units.specs.declared.places.Class.TheVariants.{Normal, Log, Special, Dedup}
use Rattle.zms_units.specs.declared.segments.Group.{Group}
use Rattle.zms_units.specs.declared.places.VdevRow.{VdevRow}
use Rattle.zms_dev.specs.Bytes.{Holds}
use Rattle.vdev_map.specs.Limits.{IsVdevCount, HasNormal, IsShift}
use Rattle.vdev_map.specs.Numbers as Vdevs
use Rattle.vdev_map.specs.Places.{table_place}
use Rattle.vdev_map.specs.Tables.{IsTable, AreUnitsOf, HasItsLogs, IsLogGroup, IsLogWords, IsPlace, IsWords, IsUnflushed, IsHeld, IsSide, ms_row_at, log_row_at}
use Rattle.vdev_map.specs.declared.layout.Head.{Head}
use Rattle.vdev_map.specs.declared.table.LogRow.{LogRow}
use Rattle.vdev_map.specs.declared.table.MsRow.{MsRow}
use Rattle.vdev_map.specs.declared.table.Table.{Table}
use Rattle.uber_ring.specs.Numbers.{number_at}
use Rattle.uber_ring.specs.Encoding.{IsVdevAt, IsLogAt, IsMsRowAt, IsEncoded, Names, IsWrittenAs}
use Rattle.uber_ring.specs.TableBytes.{class_number, class_of, vdev_at, log_at, row_at, vdev_count_in, log_count_in, metaslab_count_in, vdev_row_in, log_row_in, ms_row_in, vdevs_in, logs_in, rows_in, table_in, table_len, AreZeros, HasItsLength}
use Rattle.uber_ring.specs.TableFields.{Field, Each, IsRight, IsAllRight, HasTable, table_bytes, front_fields, vdev_fields, log_fields, row_fields}
use Rattle.uber_ring.specs.declared.slot.Uber.{Uber}
use Rattle.uber_ring.proofs.Pieces.{bytes_at_from}
use Rattle.uber_ring.proofs.TableRows.{class_back, length-vdevs_in, get-vdevs_in, length-logs_in, get-logs_in, length-rows_in, get-rows_in}
use Rattle.uber_ring.proofs.Wrong.{each-append, each_all}

few_classes : (class : Class) → class_number class < 4
few_classes Normal = omega arith
few_classes Log = omega arith
few_classes Special = omega arith
few_classes Dedup = omega arith

abbrev no_vdev : VdevRow
no_vdev = record { class = Normal; ashift = 0; units = 0; metaslabs = 0 }

abbrev no_log : LogRow
no_log = record { group = record { 0 = 0 }; words = 0; digest = [] }

abbrev no_row : MsRow
no_row = record { place = 0; words = 0; unflushed = record { 0 = 0 }; held = 0; side = 0 }

vdev_is : (bytes : List ℕ) (at : ℕ) (row : VdevRow) → IsVdevAt bytes at row → vdev_row_in bytes at ≡ row
vdev_is bytes at row is =
    let class_ : class_of (number_at bytes at 4) ≡ row.class = ap class_of is.class_ ∙ class_back row.class in
    (λ i. record { class = class_ i; ashift = is.ashift i; units = is.units i; metaslabs = is.metaslabs i })

log_is : (bytes : List ℕ) (at : ℕ) (row : LogRow) → IsLogAt bytes at row → log_row_in bytes at ≡ row
log_is bytes at row is = (λ i. record { group = record { 0 = is.group i }; words = is.words i; digest = is.digest i })

row_is : (bytes : List ℕ) (at : ℕ) (row : MsRow) → IsMsRowAt bytes at row → ms_row_in bytes at ≡ row
row_is bytes at row is = (λ i. record { place = is.place i; words = is.words i; unflushed = record { 0 = is.unflushed i }; held = is.held i; side = is.side i })

module _ (bytes : List ℕ) (table : Table) (is : IsEncoded bytes table) where
  V : vdev_count_in bytes ≡ length table.vdevs
  V = is.front.vdev_count

  L : log_count_in bytes ≡ length table.logs
  L = is.front.log_count

  M : metaslab_count_in bytes ≡ length table.rows
  M = is.front.metaslab_count

  vdevs_are : vdevs_in bytes ≡ table.vdevs
  vdevs_are =
      ext_get_or no_vdev (vdevs_in bytes) table.vdevs (length-vdevs_in bytes ∙ V)
      (λ v lt.
      let within : v < vdev_count_in bytes = omega (arith, length-vdevs_in bytes) in
      get-vdevs_in bytes v no_vdev within ∙ vdev_is bytes (vdev_at v) (Vdevs.row_at table.vdevs v) (is.vdevs v (omega (arith, V))))

  logs_are : logs_in bytes ≡ table.logs
  logs_are =
      ext_get_or no_log (logs_in bytes) table.logs (length-logs_in bytes ∙ L)
      (λ l lt.
      let within : l < log_count_in bytes = omega (arith, length-logs_in bytes) in
      get-logs_in bytes l no_log within ∙ ap (λ (v : ℕ). log_row_in bytes (log_at v l)) V ∙ log_is bytes (log_at (length table.vdevs) l) (log_row_at table l) (is.logs l (omega (arith, L))))

  rows_are : rows_in bytes ≡ table.rows
  rows_are =
      ext_get_or no_row (rows_in bytes) table.rows (length-rows_in bytes ∙ M)
      (λ m lt.
      let within : m < metaslab_count_in bytes = omega (arith, length-rows_in bytes) in
      get-rows_in bytes m no_row within ∙ (λ i. ms_row_in bytes (row_at (V i) (L i) m)) ∙ row_is bytes (row_at (length table.vdevs) (length table.logs) m) (ms_row_at table m) (is.rows m (omega (arith, M))))

  pub table_is : table_in bytes ≡ table
  table_is = (λ i. record { group = record { 0 = is.front.group_is i }; vdevs = vdevs_are i; logs = logs_are i; rows = rows_are i })

  whole : HasItsLength bytes
  whole = is.len ∙ sym (λ i. table_len (V i) (L i) (M i))

  module _ (head : Head) (uber : Uber) (fits : IsTable head table) (of_group : uber.group ≡ table.group) where
    group_is : uber.group.0 ≡ table.group.0
    group_is = ap (λ (g : Group). g.0) of_group

    abbrev P : Field → Type 0
    P = IsRight head uber bytes

    along : (Q : Table → Type 0) → Q table → Q (table_in bytes)
    along Q holds = subst Q (sym table_is) holds

    front_right : Each P front_fields
    front_right = (
      (omega (arith, is.len), is.front.text),
      (
        is.front.group_is ∙ sym group_is,
        (
          (subst IsVdevCount (sym V) fits.vdevs.count, λ w. subst HasNormal (sym vdevs_are) fits.vdevs.normal),
          (
            (omega (arith, M, fits.metaslab_rows.most), λ w. M ∙ fits.metaslab_rows.one_each ∙ sym (ap (λ (vs : List VdevRow). Vdevs.metaslabs_in vs) vdevs_are)),
            (
              (whole, along HasItsLogs fits.log_count),
              (is.front.zeros, tt),
            ),
          ),
        ),
      ),
    )

    vdev_right : (v : ℕ) → v < vdev_count_in bytes → Each P (vdev_fields v)
    vdev_right v lt =
        let within : v < length table.vdevs = omega (arith, V) in
        let at = is.vdevs v within in (
          omega (arith, at.class_, few_classes (Vdevs.row_at table.vdevs v).class),
          (
            subst IsShift (sym at.ashift) (fits.shifts v within),
            (
              subst (λ (vs : List VdevRow). AreUnitsOf vs v) (sym vdevs_are) (fits.units v within),
              (
                omega (arith, at.metaslabs, fits.metaslabs v within),
                (at.zeros, tt),
              ),
            ),
          ),
        )

    log_right : (l : ℕ) → l < log_count_in bytes → Each P (log_fields l)
    log_right l lt =
        let within : l < length table.logs = omega (arith, L) in
        (along (λ t. IsLogGroup t l) (fits.log_groups l within), (along (λ t. IsLogWords head t l) (fits.log_words l within), tt))

    row_right : (m : ℕ) → m < metaslab_count_in bytes → Each P (row_fields m)
    row_right m lt =
        let within : m < length table.rows = omega (arith, M) in (
          along (λ t. IsPlace head t m) (fits.places m within),
          (
            along (λ t. IsWords head t m) (fits.words m within),
            (
              subst (λ (g : ℕ). IsUnflushed head g (ms_row_at (table_in bytes) m).unflushed.0) (sym group_is) (along (λ t. IsUnflushed head table.group.0 (ms_row_at t m).unflushed.0) (fits.unflushed m within)),
              (
                along (λ t. IsHeld t m) (fits.held m within),
                (
                  along (λ t. IsSide head (ms_row_at t m).side) (fits.sides m within),
                  (subst (λ (p : ℕ). AreZeros bytes p 4) (sym (λ i. row_at (V i) (L i) m + 36)) (is.rows m within).zeros, tt),
                ),
              ),
            ),
          ),
        )

    pub all_right : IsAllRight head uber bytes
    all_right =
        let vdevs = flat_map vdev_fields (range_with_len 0 (vdev_count_in bytes)) in
        let logs = flat_map log_fields (range_with_len 0 (log_count_in bytes)) in
        let rows = flat_map row_fields (range_with_len 0 (metaslab_count_in bytes)) in
        each-append P front_fields (vdevs ++ (logs ++ rows)) front_right
        (each-append P vdevs (logs ++ rows) (each_all P bytes vdev_fields (vdev_count_in bytes) vdev_right)
        (each-append P logs rows (each_all P bytes log_fields (log_count_in bytes) log_right) (each_all P bytes row_fields (metaslab_count_in bytes) row_right)))

-- a table that was written
module _ (old new bytes : List ℕ) (table : Table) (uber : Uber) (holds : Holds old (table_place uber.group.0) bytes new) (is : IsEncoded bytes table) (names : Names uber table) (digest : uber.table_digest ≡ sha256 bytes) where
  there : bytes ≡ table_bytes new uber
  there = bytes_at_from new (table_place uber.group.0) uber.table_len bytes (is.len ∙ sym names.table_len) (λ k lt. sym (holds.inside k (omega (arith, is.len, names.table_len))))

  pub written_as : IsWrittenAs new uber table
  written_as = record {
    bytes = subst (λ (b : List ℕ). IsEncoded b table) there is;
    digest = sym (ap sha256 there) ∙ sym digest;
  }

  -- and is read again, whether or not it was flushed
  pub written_table : (head : Head) → IsTable head table → HasTable new head uber table
  written_table head fits = record {
    digest = sym (ap sha256 there) ∙ sym digest;
    right = subst (λ (b : List ℕ). IsAllRight head uber b) there (all_right bytes table is head uber fits names.group);
    is = sym (table_is bytes table is) ∙ ap table_in there;
  }
