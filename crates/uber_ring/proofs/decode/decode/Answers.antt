use Rattle.std.proofs.Common.{◌≡◌, ℕ, ◌-◌, ◌≤◌, ◌<◌, ◌++◌, List, length, sym, ◌∙◌, ap, subst, arith}
use Rattle.std.specs.List.{flat_map, range_with_len}
use Rattle.vdev_map.specs.Limits.{EachRow}
use Rattle.vdev_map.specs.Numbers.{metaslabs_in}
use Rattle.zms_units.specs.declared.places.VdevRow.{VdevRow}
use Rattle.uber_ring.specs.TableBytes.{vdev_count_in, log_count_in, metaslab_count_in, vdevs_in}
use Rattle.uber_ring.specs.declared.faults.TableFault.{TableFault}
use Rattle.uber_ring.specs.TableFields.{Field, Each, IsRight, IsWrongIn, fields_in, front_fields, vdev_fields, log_fields, row_fields}
use Rattle.uber_ring.proofs.DecodeLoops.{handed_on}
use Rattle.uber_ring.proofs.TableRows.{length-vdevs_in}
use Rattle.uber_ring.proofs.Wrong.{each-append, each_row, fault_front, fault_behind}
use Rattle.uber_ring.proofs.decode.decode.Goals as goal

-- the parts of a table's fields, and where the first wrong field of each stands among all
module _ (P : Field → Type 0) (bytes : List ℕ) where
  abbrev vdevs : List Field
  vdevs = flat_map vdev_fields (range_with_len 0 (vdev_count_in bytes))

  abbrev logs : List Field
  logs = flat_map log_fields (range_with_len 0 (log_count_in bytes))

  abbrev rows : List Field
  rows = flat_map row_fields (range_with_len 0 (metaslab_count_in bytes))

  wrong_counts : (fault : TableFault) → IsWrongIn P bytes front_fields fault → IsWrongIn P bytes (fields_in bytes) fault
  wrong_counts fault wrong = fault_front P bytes front_fields (vdevs ++ (logs ++ rows)) fault wrong

  wrong_vdevs : (fault : TableFault) → Each P front_fields → IsWrongIn P bytes vdevs fault → IsWrongIn P bytes (fields_in bytes) fault
  wrong_vdevs fault front wrong = fault_behind P bytes front_fields (vdevs ++ (logs ++ rows)) fault front (fault_front P bytes vdevs (logs ++ rows) fault wrong)

  wrong_logs : (fault : TableFault) → Each P front_fields → Each P vdevs → IsWrongIn P bytes logs fault → IsWrongIn P bytes (fields_in bytes) fault
  wrong_logs fault front first wrong =
      fault_behind P bytes front_fields (vdevs ++ (logs ++ rows)) fault front (fault_behind P bytes vdevs (logs ++ rows) fault first (fault_front P bytes logs rows fault wrong))

  wrong_rows : (fault : TableFault) → Each P front_fields → Each P vdevs → Each P logs → IsWrongIn P bytes rows fault → IsWrongIn P bytes (fields_in bytes) fault
  wrong_rows fault front first second wrong =
      fault_behind P bytes front_fields (vdevs ++ (logs ++ rows)) fault front (fault_behind P bytes vdevs (logs ++ rows) fault first (fault_behind P bytes logs rows fault second wrong))

  all_right : Each P front_fields → Each P vdevs → Each P logs → Each P rows → Each P (fields_in bytes)
  all_right front first second third = each-append P front_fields (vdevs ++ (logs ++ rows)) front (each-append P vdevs (logs ++ rows) first (each-append P logs rows second third))

pub returns-in_err-counts-clause-err : goal.returns-in_err-counts-clause-err
returns-in_err-counts-clause-err c =
    handed_on c.from_residual.result c.in_err-counts.field-0.0 (IsWrongIn (IsRight c.args.head.now c.args.uber.now c.args.bytes.now) c.args.bytes.now (fields_in c.args.bytes.now)) c.from_residual.ensures.1
    (wrong_counts (IsRight c.args.head.now c.args.uber.now c.args.bytes.now) c.args.bytes.now c.in_err-counts.field-0.0 (c.in_err-counts.ensures.err c.args.head.now))

pub vdevs_of-requires-clause-whole : goal.vdevs_of-requires-clause-whole
vdevs_of-requires-clause-whole c = (c.in_ok-counts.ensures.ok c.args.head.now).1.1.1.1.0.0

pub vdevs_of-requires-clause-each : goal.vdevs_of-requires-clause-each
vdevs_of-requires-clause-each c = (c.in_ok-counts.ensures.ok c.args.head.now).1.1.1.0.1 (c.in_ok-counts.ensures.ok c.args.head.now).1.1.1.1.0.0

pub vdevs_of-requires-clause-few : goal.vdevs_of-requires-clause-few
vdevs_of-requires-clause-few c = (c.in_ok-counts.ensures.ok c.args.head.now).1.1.1.0.0

pub returns-in_err-vdevs-clause-err : goal.returns-in_err-vdevs-clause-err
returns-in_err-vdevs-clause-err c =
    handed_on c.from_residual-in_err-vdevs.result c.in_err-vdevs.field-0.0 (IsWrongIn (IsRight c.args.head.now c.args.uber.now c.args.bytes.now) c.args.bytes.now (fields_in c.args.bytes.now)) c.from_residual-in_err-vdevs.ensures.1
    (wrong_vdevs (IsRight c.args.head.now c.args.uber.now c.args.bytes.now) c.args.bytes.now c.in_err-vdevs.field-0.0 (c.in_ok-counts.ensures.ok c.args.head.now) (c.in_err-vdevs.ensures.err c.args.head.now c.args.uber.now))

pub logs_of-requires-clause-whole : goal.logs_of-requires-clause-whole
logs_of-requires-clause-whole c = (c.in_ok-counts.ensures.ok c.args.head.now).1.1.1.1.0.0

pub logs_of-requires-clause-group : goal.logs_of-requires-clause-group
logs_of-requires-clause-group c = (c.in_ok-counts.ensures.ok c.args.head.now).1.0

pub returns-in_err-logs-clause-err : goal.returns-in_err-logs-clause-err
returns-in_err-logs-clause-err c =
    handed_on c.from_residual-in_err-logs.result c.in_err-logs.field-0.0 (IsWrongIn (IsRight c.args.head.now c.args.uber.now c.args.bytes.now) c.args.bytes.now (fields_in c.args.bytes.now)) c.from_residual-in_err-logs.ensures.1
    (wrong_logs (IsRight c.args.head.now c.args.uber.now c.args.bytes.now) c.args.bytes.now c.in_err-logs.field-0.0 (c.in_ok-counts.ensures.ok c.args.head.now) (c.in_ok-vdevs.ensures.ok c.args.head.now c.args.uber.now) (c.in_err-logs.ensures.err c.args.uber.now))

pub rows_of-requires-clause-count : goal.rows_of-requires-clause-count
rows_of-requires-clause-count c =
    let bytes = c.args.bytes.now in
    let front = c.in_ok-counts.ensures.ok c.args.head.now in
    let same : c.deref.result.now ≡ vdevs_in bytes = c.deref.ensures.value ∙ c.in_ok-vdevs.ensures.rows in
    omega (arith, ap (λ (xs : List VdevRow). length xs) same, length-vdevs_in bytes, front.1.1.0.0.most)

pub rows_of-requires-clause-units : goal.rows_of-requires-clause-units
rows_of-requires-clause-units c =
    let bytes = c.args.bytes.now in
    let front = c.in_ok-counts.ensures.ok c.args.head.now in
    let same : c.deref.result.now ≡ vdevs_in bytes = c.deref.ensures.value ∙ c.in_ok-vdevs.ensures.rows in
    subst (λ (xs : List VdevRow). EachRow (λ row. row.units ≤ 131072) xs) (sym same)
    (λ v lt.
    let within : v < vdev_count_in bytes = omega (arith, length-vdevs_in bytes, lt) in
    (each_row (IsRight c.args.head.now c.args.uber.now bytes) bytes vdev_fields (vdev_count_in bytes) v (vdev_count_in bytes - v - 1) (omega arith) (c.in_ok-vdevs.ensures.ok c.args.head.now c.args.uber.now)).1.1.0.each.most)

pub rows_of-requires-clause-each : goal.rows_of-requires-clause-each
rows_of-requires-clause-each c =
    let bytes = c.args.bytes.now in
    let front = c.in_ok-counts.ensures.ok c.args.head.now in
    let same : c.deref.result.now ≡ vdevs_in bytes = c.deref.ensures.value ∙ c.in_ok-vdevs.ensures.rows in
    front.1.1.1.0.1 front.1.1.1.1.0.0 ∙ sym (ap (λ (xs : List VdevRow). metaslabs_in xs) same)

pub rows_of-requires-clause-few : goal.rows_of-requires-clause-few
rows_of-requires-clause-few c = (c.in_ok-counts.ensures.ok c.args.head.now).1.1.1.0.0

pub rows_of-requires-clause-whole : goal.rows_of-requires-clause-whole
rows_of-requires-clause-whole c = (c.in_ok-counts.ensures.ok c.args.head.now).1.1.1.1.0.0

pub returns-in_err-rows-clause-err : goal.returns-in_err-rows-clause-err
returns-in_err-rows-clause-err c =
    handed_on c.from_residual-in_err-rows.result c.in_err-rows.field-0.0 (IsWrongIn (IsRight c.args.head.now c.args.uber.now c.args.bytes.now) c.args.bytes.now (fields_in c.args.bytes.now)) c.from_residual-in_err-rows.ensures.1
    (wrong_rows (IsRight c.args.head.now c.args.uber.now c.args.bytes.now) c.args.bytes.now c.in_err-rows.field-0.0 (c.in_ok-counts.ensures.ok c.args.head.now) (c.in_ok-vdevs.ensures.ok c.args.head.now c.args.uber.now) (c.in_ok-logs.ensures.ok c.args.uber.now) c.in_err-rows.ensures.err)

pub returns-clause-table : goal.returns-clause-table
returns-clause-table c =
    let front = c.in_ok-counts.ensures.ok c.args.head.now in
    let vdevs = c.from_vec.ensures ∙ c.in_ok-vdevs.ensures.rows in
    let logs = c.from_vec-2.ensures ∙ c.in_ok-logs.ensures.rows in
    let rows = c.from_vec-3.ensures ∙ c.in_ok-rows.ensures.rows in
    let group = sym front.1.0 in
    (λ i. record { group = record { 0 = group i }; vdevs = vdevs i; logs = logs i; rows = rows i })

pub returns-clause-ok : goal.returns-clause-ok
returns-clause-ok c = all_right (IsRight c.args.head.now c.args.uber.now c.args.bytes.now) c.args.bytes.now (c.in_ok-counts.ensures.ok c.args.head.now) (c.in_ok-vdevs.ensures.ok c.args.head.now c.args.uber.now) (c.in_ok-logs.ensures.ok c.args.uber.now) c.in_ok-rows.ensures.ok
