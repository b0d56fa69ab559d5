use Rattle.std.proofs.Common.{◌≡◌, ℕ, ap}
use Rattle.zms_units.specs.declared.segments.Group.{Group}
use Rattle.vdev_map.specs.Tables.{IsTable}
use Rattle.vdev_map.specs.declared.table.Table.{Table}
use Rattle.uber_ring.proofs.RightTables.{table_right}
use Rattle.uber_ring.proofs.ReadTables.{ok_both}
use Rattle.uber_ring.specs.TableBytes.{table_in}
use Rattle.uber_ring.specs.TableFields.{IsAllRight}
use Rattle.uber_ring.proofs.table.table_of.Goals as goal

pub returns-clause-limits : goal.returns-clause-limits
returns-clause-limits c =
    let head = c.args.head.now in
    let bytes = c.args.bytes.now in
    ok_both c.decode.result (IsAllRight head c.args.uber.now bytes) (table_in bytes) (IsTable head) (λ all. table_right head c.args.uber.now bytes all c.requires.uber.group) c.decode.ensures.ok c.decode.ensures.table

pub returns-clause-group : goal.returns-clause-group
returns-clause-group c =
    let head = c.args.head.now in
    let bytes = c.args.bytes.now in
    let number : ℕ → Group = λ n. record { 0 = n } in
    ok_both c.decode.result (IsAllRight head c.args.uber.now bytes) (table_in bytes) (λ (table : Table). table.group ≡ c.args.uber.now.group) (λ all. ap number all.1.0) c.decode.ensures.ok c.decode.ensures.table
