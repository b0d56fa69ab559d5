use Rattle.std.proofs.Common.{◌≡◌, ◌-◌, ◌<◌, ℕ, [], sym, ◌∙◌, subst, arith}
use Rattle.std.specs.List.{flat_map, range_with_len}
use Rattle.uber_ring.proofs.DecodeLoops.{rows_more, rows_all, handed_on}
use Rattle.uber_ring.proofs.Wrong.{each_more, fault_row}
use Rattle.vdev_map.specs.declared.table.LogRow.{LogRow}
use Rattle.uber_ring.specs.TableBytes.{log_count_in, logs_in}
use Rattle.uber_ring.specs.TableFields.{Each, IsRight, IsWrongIn, log_fields}
use Rattle.uber_ring.proofs.TableRows.{length-logs_in, get-logs_in}
use Rattle.uber_ring.proofs.decode.logs_of.Goals as goal

pub returns-in_err-row-clause-err : goal.returns-in_err-row-clause-err
returns-in_err-row-clause-err c uber =
    let bytes = c.args.bytes.now in
    let P = IsRight c.args.head.now uber bytes in
    handed_on c.from_residual.result c.in_err-row.field-0.0 (IsWrongIn P bytes (flat_map log_fields (range_with_len 0 (log_count_in bytes)))) c.from_residual.ensures.1
    (fault_row P bytes log_fields c.loop-l.l (log_count_in bytes - c.loop-l.l - 1) (log_count_in bytes) c.in_err-row.field-0.0 (omega (arith, c.requires.counts.logs, c.loop-l-test.true))
    (c.loop-l.invariant.right uber) (c.in_err-row.ensures.err uber))

pub loop-l-preserved : goal.loop-l-preserved
loop-l-preserved c =
    let bytes = c.args.bytes.now in
    let none : LogRow = record { group = record { 0 = 0 }; words = 0; digest = [] } in
    let lt : c.loop-l.l < log_count_in bytes = omega (arith, c.requires.counts.logs, c.loop-l-test.true) in
    record {
      rows = rows_more c.loop-l.logs.items c.push.new.self.items (logs_in bytes) c.in_ok-row.row c.loop-l.l none (omega (arith, length-logs_in bytes)) c.loop-l.invariant.rows (c.in_ok-row.ensures.row ∙ sym (get-logs_in bytes c.loop-l.l none lt)) c.in_ok-push.ensures.items;
      right = λ uber. each_more (IsRight c.args.head.now uber bytes) bytes log_fields c.loop-l.l (c.loop-l.invariant.right uber) (c.in_ok-row.ensures.ok uber);
    }

pub returns-clause-rows : goal.returns-clause-rows
returns-clause-rows c =
    let bytes = c.args.bytes.now in
    rows_all c.loop-l.logs.items (logs_in bytes) c.loop-l.l (omega (arith, length-logs_in bytes, c.requires.counts.logs, c.loop-l-test.false)) c.loop-l.invariant.rows

pub returns-clause-ok : goal.returns-clause-ok
returns-clause-ok c uber =
    let bytes = c.args.bytes.now in
    subst (λ (n : ℕ). Each (IsRight c.args.head.now uber bytes) (flat_map log_fields (range_with_len 0 n))) (let e : c.loop-l.l ≡ log_count_in bytes = omega (arith, c.requires.counts.logs, c.loop-l-test.false, c.loop-l.auto.l-end) in e) (c.loop-l.invariant.right uber)
