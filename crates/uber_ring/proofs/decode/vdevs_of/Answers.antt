use Rattle.std.proofs.Common.{◌≡◌, ◌+◌, ◌*◌, ◌-◌, ◌<◌, ℕ, [], take, sym, ◌∙◌, ap, subst, arith}
use Rattle.std.specs.List.{flat_map, range_with_len}
use Rattle.uber_ring.proofs.DecodeLoops.{rows_more, rows_all, handed_on}
use Rattle.uber_ring.proofs.Wrong.{each_more, fault_row}
use Rattle.zms_units.specs.declared.places.Class.TheVariants.{Normal}
use Rattle.zms_units.specs.declared.places.VdevRow.{VdevRow}
use Rattle.vdev_map.specs.Numbers.{units_in}
use Rattle.vdev_map.specs.declared.layout.Form.TheVariants.{Whole}
use Rattle.vdev_map.specs.declared.layout.Head.{Head}
use Rattle.uber_ring.specs.declared.slot.Uber.{Uber}
use Rattle.uber_ring.specs.TableBytes.{vdev_count_in, vdevs_in}
use Rattle.uber_ring.specs.TableFields.{Each, IsRight, IsWrongIn, vdev_fields}
use Rattle.uber_ring.proofs.TableRows.{length-vdevs_in, get-vdevs_in, few_metaslabs, units_more}
use Rattle.uber_ring.proofs.decode.vdevs_of.Goals as goal

pub vdev_of-requires-clause-metaslabs : goal.vdev_of-requires-clause-metaslabs
vdev_of-requires-clause-metaslabs c = omega (arith, few_metaslabs c.args.bytes.now c.loop-v.v (omega (arith, c.requires.counts.vdevs, c.loop-v-test.true)), c.requires.each, c.requires.few)

pub returns-in_err-row-clause-err : goal.returns-in_err-row-clause-err
returns-in_err-row-clause-err c head uber =
    let bytes = c.args.bytes.now in
    let P = IsRight head uber bytes in
    handed_on c.from_residual.result c.in_err-row.field-0.0 (IsWrongIn P bytes (flat_map vdev_fields (range_with_len 0 (vdev_count_in bytes)))) c.from_residual.ensures.1
    (fault_row P bytes vdev_fields c.loop-v.v (vdev_count_in bytes - c.loop-v.v - 1) (vdev_count_in bytes) c.in_err-row.field-0.0 (omega (arith, c.requires.counts.vdevs, c.loop-v-test.true))
    (c.loop-v.invariant.right head uber) (c.in_err-row.ensures.err head uber))

pub loop-v-preserved : goal.loop-v-preserved
loop-v-preserved c =
    let bytes = c.args.bytes.now in
    let v = c.loop-v.v in
    let none : VdevRow = record { class = Normal; ashift = 0; units = 0; metaslabs = 0 } in
    let lt : v < vdev_count_in bytes = omega (arith, c.requires.counts.vdevs, c.loop-v-test.true) in
    let row = c.in_ok-row.ensures.row in
    let units : c.loop-v.units + c.from.result * c.from-in-loop-v.result ≡ units_in (take (v + 1) (vdevs_in bytes)) =
    (λ i. c.loop-v.invariant.units i + (c.from.ensures ∙ ap (λ (r : VdevRow). r.metaslabs) row) i * (c.from-in-loop-v.ensures ∙ ap (λ (r : VdevRow). r.units) row) i) ∙ sym (units_more bytes v lt) in
    let head : Head = record { form = Whole; flush = 0; log = 0 } in
    let uber : Uber = record { group = record { 0 = 0 }; version = 0; table_len = 0; table_digest = [] } in
    record {
      rows = rows_more c.loop-v.vdevs.items c.push.new.self.items (vdevs_in bytes) c.in_ok-row.row v none (omega (arith, length-vdevs_in bytes)) c.loop-v.invariant.rows (row ∙ sym (get-vdevs_in bytes v none lt)) c.in_ok-push.ensures.items;
      units = units;
      few = omega (arith, units, (c.in_ok-row.ensures.ok head uber).1.1.0.so_far);
      right = λ head uber. each_more (IsRight head uber bytes) bytes vdev_fields v (c.loop-v.invariant.right head uber) (c.in_ok-row.ensures.ok head uber);
    }

pub returns-clause-rows : goal.returns-clause-rows
returns-clause-rows c =
    let bytes = c.args.bytes.now in
    rows_all c.loop-v.vdevs.items (vdevs_in bytes) c.loop-v.v (omega (arith, length-vdevs_in bytes, c.requires.counts.vdevs, c.loop-v-test.false)) c.loop-v.invariant.rows

pub returns-clause-ok : goal.returns-clause-ok
returns-clause-ok c head uber =
    let bytes = c.args.bytes.now in
    subst (λ (n : ℕ). Each (IsRight head uber bytes) (flat_map vdev_fields (range_with_len 0 n))) (let e : c.loop-v.v ≡ vdev_count_in bytes = omega (arith, c.requires.counts.vdevs, c.loop-v-test.false, c.loop-v.auto.v-end) in e) (c.loop-v.invariant.right head uber)
