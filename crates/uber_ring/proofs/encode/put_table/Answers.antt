use Rattle.std.proofs.Common.{◌≡◌, subst, ap, ◌∙◌, sym}
use Rattle.vdev_map.specs.declared.table.Table.{Table}
use Rattle.uber_ring.specs.Encoding.{IsEncoded, len_of}
use Rattle.uber_ring.proofs.Encoded.{all_encoded}
use Rattle.uber_ring.proofs.encode.put_table.Goals as goal

pub returns : goal.returns
returns c =
    let vdevs = c.as_slice-vdevs.result.now in
    let logs = c.as_slice-logs.result.now in
    let rows = c.as_slice-rows.result.now in
    let slices : Table = record { group = c.args.table.now.group; vdevs = vdevs; logs = logs; rows = rows } in
    let same : slices ≡ c.args.table.now = (λ i. record { group = c.args.table.now.group; vdevs = c.as_slice-vdevs.ensures i; logs = c.as_slice-logs.ensures i; rows = c.as_slice-rows.ensures i }) in
    subst (λ (table : Table). IsEncoded c.put_rows.new.bytes table) same
    (all_encoded c.args.bytes.now c.put_front.new.bytes c.put_vdevs.new.bytes c.put_logs.new.bytes c.put_rows.new.bytes c.args.table.now.group.0 vdevs logs rows
    (c.requires.len ∙ sym (ap len_of same)) c.put_front.ensures.front c.put_front.ensures.changes c.put_vdevs.ensures.rows c.put_vdevs.ensures.changes
    c.put_logs.ensures.rows c.put_logs.ensures.changes c.put_rows.ensures.rows c.put_rows.ensures.changes)
