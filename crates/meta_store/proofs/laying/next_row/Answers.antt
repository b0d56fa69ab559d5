use Rattle.std.proofs.Common.{arith}
use Rattle.zms_units.proofs.Counting.{rising_total}
use Rattle.meta_store.specs.Words.{units_of}
use Rattle.meta_store.proofs.RowPlaces.{units_few}
use Rattle.meta_store.proofs.laying.next_row.Goals as goal

pub unit_count-requires : goal.unit_count-requires
unit_count-requires c =
    let table = c.args.table.now in
    omega (arith, rising_total 0 (units_of table c.args.id) c.args.allocs.now c.requires.changes.allocs_lie, units_few c.args.head.now table c.requires.table c.args.id c.requires.id)

pub unit_count-requires-2 : goal.unit_count-requires-2
unit_count-requires-2 c =
    let table = c.args.table.now in
    omega (arith, rising_total 0 (units_of table c.args.id) c.args.frees.now c.requires.changes.frees_lie, units_few c.args.head.now table c.requires.table c.args.id c.requires.id)
