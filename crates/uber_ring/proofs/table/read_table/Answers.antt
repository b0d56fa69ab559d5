use Rattle.std.proofs.Common.{◌≡◌, ℕ, ap, ◌∙◌}
use Rattle.zms_dev.specs.Disk.{bytes_of}
use Rattle.uber_ring.specs.Numbers.{bytes_at}
use Rattle.uber_ring.specs.TableFields.{table_bytes}
use Rattle.uber_ring.proofs.ReadTables.{has_table, has_fault}
use Rattle.uber_ring.proofs.table.read_table.Goals as goal

pub returns-clause-table : goal.returns-clause-table
returns-clause-table g c tells =
    let image = bytes_of (g.D.Disk.state c.args.disk.now) in
    let same : c.deref.result.now ≡ table_bytes image c.args.uber.now = c.deref.ensures.value ∙ c.in_ok-bytes.ensures.bytes tells ∙ ap (λ (at : ℕ). bytes_at image at c.args.uber.now.table_len) c.table_place.ensures in
    has_table image c.deref.result.now c.args.head.now c.args.uber.now same c.table_of.result c.table_of.ensures.digest c.table_of.ensures.right c.table_of.ensures.table

pub returns-clause-fault : goal.returns-clause-fault
returns-clause-fault g c tells =
    let image = bytes_of (g.D.Disk.state c.args.disk.now) in
    let same : c.deref.result.now ≡ table_bytes image c.args.uber.now = c.deref.ensures.value ∙ c.in_ok-bytes.ensures.bytes tells ∙ ap (λ (at : ℕ). bytes_at image at c.args.uber.now.table_len) c.table_place.ensures in
    has_fault image c.deref.result.now c.args.head.now c.args.uber.now same c.table_of.result c.table_of.ensures.err
