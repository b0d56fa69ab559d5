-- A table whose fields are right is within its limits.
use Rattle.std.proofs.Common.{◌≡◌, ℕ, ◌-◌, ◌<◌, List, ◌++◌, length, sym, ◌∙◌, ap, subst, arith}
use Rattle.std.specs.List.{flat_map, range_with_len}
use Rattle.zms_units.specs.declared.places.Class.TheVariants.{Normal}
use Rattle.zms_units.specs.declared.places.VdevRow.{VdevRow}
use Rattle.vdev_map.specs.Limits.{IsVdevCount, IsShift}
use Rattle.vdev_map.specs.Tables.{IsGroup, IsTable, IsUnflushed, ms_row_at}
use Rattle.vdev_map.specs.declared.layout.Head.{Head}
use Rattle.uber_ring.specs.Numbers.{number_at}
use Rattle.uber_ring.specs.TableBytes.{vdev_count_in, log_count_in, metaslab_count_in, vdevs_in, table_in, HasItsLength}
use Rattle.uber_ring.specs.TableFields.{Field, Each, IsRight, IsAllRight, front_fields, vdev_fields, log_fields, row_fields}
use Rattle.uber_ring.specs.declared.slot.Uber.{Uber}
use Rattle.uber_ring.proofs.TableRows.{length-vdevs_in, get-vdevs_in, length-logs_in, length-rows_in}
use Rattle.uber_ring.proofs.Wrong.{each_left, each_right, each_row}

module _ (head : Head) (uber : Uber) (bytes : List ℕ) (all : IsAllRight head uber bytes) where
  abbrev P : Field → Type 0
  P = IsRight head uber bytes

  abbrev vdevs : List Field
  vdevs = flat_map vdev_fields (range_with_len 0 (vdev_count_in bytes))

  abbrev logs : List Field
  logs = flat_map log_fields (range_with_len 0 (log_count_in bytes))

  abbrev rows : List Field
  rows = flat_map row_fields (range_with_len 0 (metaslab_count_in bytes))

  pub front_right : Each P front_fields
  front_right = each_left P front_fields (vdevs ++ (logs ++ rows)) all

  behind : Each P (vdevs ++ (logs ++ rows))
  behind = each_right P front_fields (vdevs ++ (logs ++ rows)) all

  vdev_right : (v : ℕ) → v < vdev_count_in bytes → Each P (vdev_fields v)
  vdev_right v lt = each_row P bytes vdev_fields (vdev_count_in bytes) v (vdev_count_in bytes - v - 1) (omega arith) (each_left P vdevs (logs ++ rows) behind)

  log_right : (l : ℕ) → l < log_count_in bytes → Each P (log_fields l)
  log_right l lt = each_row P bytes log_fields (log_count_in bytes) l (log_count_in bytes - l - 1) (omega arith) (each_left P logs rows (each_right P vdevs (logs ++ rows) behind))

  row_right : (m : ℕ) → m < metaslab_count_in bytes → Each P (row_fields m)
  row_right m lt = each_row P bytes row_fields (metaslab_count_in bytes) m (metaslab_count_in bytes - m - 1) (omega arith) (each_right P logs rows (each_right P vdevs (logs ++ rows) behind))

  group_is : number_at bytes 8 8 ≡ uber.group.0
  group_is = front_right.1.0

  whole : HasItsLength bytes
  whole = front_right.1.1.1.1.0.0

  within_v : (v : ℕ) → v < length (vdevs_in bytes) → v < vdev_count_in bytes
  within_v v lt = omega (arith, length-vdevs_in bytes)

  within_m : (m : ℕ) → m < length (table_in bytes).rows → m < metaslab_count_in bytes
  within_m m lt = omega (arith, length-rows_in bytes)

  pub table_right : IsGroup uber.group.0 → IsTable head (table_in bytes)
  table_right group = record {
    group = subst IsGroup (sym group_is) group;
    vdevs = record { count = subst IsVdevCount (sym (length-vdevs_in bytes)) front_right.1.1.0.0; normal = front_right.1.1.0.1 whole };
    metaslab_rows = record { most = omega (arith, length-rows_in bytes, front_right.1.1.1.0.0); one_each = length-rows_in bytes ∙ front_right.1.1.1.0.1 whole };
    log_count = front_right.1.1.1.1.0.1;
    shifts = λ v lt. subst IsShift (sym (ap (λ (row : VdevRow). row.ashift) (get-vdevs_in bytes v _ (within_v v lt)))) (vdev_right v (within_v v lt)).1.0;
    units = λ v lt. (vdev_right v (within_v v lt)).1.1.0;
    metaslabs = λ v lt. omega (arith, ap (λ (row : VdevRow). row.metaslabs) (get-vdevs_in bytes v no_row (within_v v lt)), (vdev_right v (within_v v lt)).1.1.1.0);
    log_groups = λ l lt. (log_right l (omega (arith, length-logs_in bytes))).0;
    log_words = λ l lt. (log_right l (omega (arith, length-logs_in bytes))).1.0;
    places = λ m lt. (row_right m (within_m m lt)).0;
    words = λ m lt. (row_right m (within_m m lt)).1.0;
    unflushed = λ m lt. subst (λ (g : ℕ). IsUnflushed head g (ms_row_at (table_in bytes) m).unflushed.0) (sym group_is) (row_right m (within_m m lt)).1.1.0;
    held = λ m lt. (row_right m (within_m m lt)).1.1.1.0;
    sides = λ m lt. (row_right m (within_m m lt)).1.1.1.1.0;
  }
    where
      no_row : VdevRow
      no_row = record { class = Normal; ashift = 0; units = 0; metaslabs = 0 }
