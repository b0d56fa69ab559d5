use Rattle.std.proofs.Common.{◌-◌, ◌<◌, sym, ◌∙◌, arith}
use Rattle.std.specs.List.{flat_map, range_with_len}
use Rattle.uber_ring.proofs.DecodeLoops.{rows_more, rows_all, handed_on}
use Rattle.uber_ring.proofs.Wrong.{each_more, fault_row}
use Rattle.vdev_map.specs.declared.table.MsRow.{MsRow}
use Rattle.uber_ring.specs.TableBytes.{metaslab_count_in, rows_in}
use Rattle.uber_ring.specs.TableFields.{IsRight, IsWrongIn, row_fields}
use Rattle.uber_ring.proofs.TableRows.{length-rows_in, get-rows_in}
use Rattle.uber_ring.proofs.decode.rows_of.Goals as goal

pub returns-in_err-row-clause-err : goal.returns-in_err-row-clause-err
returns-in_err-row-clause-err c =
    let bytes = c.args.bytes.now in
    let P = IsRight c.args.head.now c.args.uber.now bytes in
    handed_on c.from_residual.result c.in_err-row.field-0.0 (IsWrongIn P bytes (flat_map row_fields (range_with_len 0 (metaslab_count_in bytes)))) c.from_residual.ensures.1
    (fault_row P bytes row_fields c.loop-m.m (metaslab_count_in bytes - c.loop-m.m - 1) (metaslab_count_in bytes) c.in_err-row.field-0.0 (omega (arith, c.requires.counts.metaslabs, c.loop-m-test.true))
    c.loop-m.invariant.right c.in_err-row.ensures.err)

pub loop-m-preserved : goal.loop-m-preserved
loop-m-preserved c =
    let bytes = c.args.bytes.now in
    let none : MsRow = record { place = 0; words = 0; unflushed = record { 0 = 0 }; held = 0; side = 0 } in
    let lt : c.loop-m.m < metaslab_count_in bytes = omega (arith, c.requires.counts.metaslabs, c.loop-m-test.true) in
    record {
      rows = rows_more c.loop-m.rows.items c.push.new.self.items (rows_in bytes) c.in_ok-row.row c.loop-m.m none (omega (arith, length-rows_in bytes)) c.loop-m.invariant.rows (c.in_ok-row.ensures.row ∙ sym (get-rows_in bytes c.loop-m.m none lt)) c.in_ok-push.ensures.items;
      right = each_more (IsRight c.args.head.now c.args.uber.now bytes) bytes row_fields c.loop-m.m c.loop-m.invariant.right c.in_ok-row.ensures.ok;
    }

pub returns-clause-rows : goal.returns-clause-rows
returns-clause-rows c =
    let bytes = c.args.bytes.now in
    rows_all c.loop-m.rows.items (rows_in bytes) c.loop-m.m (omega (arith, length-rows_in bytes, c.requires.counts.metaslabs, c.loop-m-test.false)) c.loop-m.invariant.rows
