use Rattle.std.proofs.Common.{sym, ap, subst}
use Rattle.zms_dev.specs.Disk.{bytes_of}
use Rattle.zms_dev.proofs.Sparing.{spares_less}
use Rattle.zms_units.specs.declared.places.MsId.{MsId}
use Rattle.vdev_map.specs.Numbers.{IsIn}
use Rattle.vdev_map.specs.declared.table.Table.{Table}
use Rattle.uber_ring.specs.Encoding.{len_of}
use Rattle.meta_store.specs.NextGroups.{OffWords, IsSpared, IsNextTable}
use Rattle.meta_store.specs.NextWords.{allocs_of, frees_of, HasNextWords}
use Rattle.meta_store.specs.Words.{row_of}
use Rattle.meta_store.proofs.NextTables.{is_next_table, made_len, table_spares, words_off_table}
use Rattle.meta_store.proofs.RowPlaces.{has_row}
use Rattle.meta_store.proofs.laying.write_group.Goals as goal

pub returns-in_err-rows-clause-spares : goal.returns-in_err-rows-clause-spares
returns-in_err-rows-clause-spares g c tells =
    let vdevs = c.args.table.now.vdevs in
    spares_less (OffWords c.args.head.now vdevs c.args.group) (g.D.Disk.state c.args.disk.now) (g.D.Disk.state c.write_sides.new.disk) (IsSpared c.args.head.now vdevs c.args.group) (λ p spared. spared.words) (c.write_sides.ensures.spares tells)

pub returns-in_err-uber-clause-spares : goal.returns-in_err-uber-clause-spares
returns-in_err-uber-clause-spares g c tells =
    let table = c.args.table.now in
    let run = c.write_sides.ensures.spares tells in
    table_spares c.args.head.now table c.requires.head c.requires.table c.args.batches.now c.requires.batches c.args.group c.requires.next c.requires.group c.in_ok-rows.rows.items c.in_ok-rows.ensures.rows
    c.in_ok-next.next c.in_ok-next.ensures (g.D.Disk.state c.args.disk.now) (g.D.Disk.state c.write_sides.new.disk) (g.D.Disk.state c.write_table.new.disk) run (c.write_table.ensures.spares run.tells)

pub returns-clause-next : goal.returns-clause-next
returns-clause-next g c =
    let table = c.args.table.now in
    record {
      table_is =
          subst (λ (next : Table). IsNextTable c.args.head.now table c.args.batches.now next) (sym c.in_ok-next.ensures)
          (is_next_table c.args.head.now table c.requires.head c.requires.table c.args.batches.now c.requires.batches c.args.group c.requires.next c.requires.group c.in_ok-rows.rows.items c.in_ok-rows.ensures.rows);
      names = c.in_ok-uber.ensures.names;
      limits = c.in_ok-uber.ensures.limits;
    }

pub returns-clause-laid : goal.returns-clause-laid
returns-clause-laid g c tells keeps =
    let table = c.args.table.now in
    let head = c.args.head.now in
    let run = c.write_sides.ensures.spares tells in
    let old = bytes_of (g.D.Disk.state c.args.disk.now) in
    let mid = bytes_of (g.D.Disk.state c.write_sides.new.disk) in
    let new = bytes_of (g.D.Disk.state c.write_table.new.disk) in
    let next = is_next_table head table c.requires.head c.requires.table c.args.batches.now c.requires.batches c.args.group c.requires.next c.requires.group c.in_ok-rows.rows.items c.in_ok-rows.ensures.rows in
    let fits = subst (λ (t : Table). IsNextTable head table c.args.batches.now t) (sym c.in_ok-next.ensures) next in
    record {
      table_is = c.in_ok-uber.ensures.written run.tells head fits.fits;
      words =
          subst (λ (t : Table). (id : MsId) → IsIn table.vdevs id → HasNextWords old new head table t.group id (allocs_of c.args.batches.now id) (frees_of c.args.batches.now id) (row_of t id).words) (sym c.in_ok-next.ensures)
          (λ id in_.
          words_off_table head table c.requires.head old mid new c.args.group id (allocs_of c.args.batches.now id) (frees_of c.args.batches.now id) _ c.in_ok-next.next.group (ap (λ (t : Table). t.group) c.in_ok-next.ensures) (len_of c.in_ok-next.next) _
          (ap len_of c.in_ok-next.ensures) (made_len head table c.requires.head c.requires.table c.args.batches.now c.requires.batches c.args.group c.requires.next c.requires.group c.in_ok-rows.rows.items c.in_ok-rows.ensures.rows)
          (c.write_table.ensures.spares run.tells).contents (c.in_ok-rows.ensures.words tells keeps id in_ (has_row head table c.requires.table id in_)));
    }

pub returns-clause-spares : goal.returns-clause-spares
returns-clause-spares g c tells =
    let table = c.args.table.now in
    let run = c.write_sides.ensures.spares tells in
    table_spares c.args.head.now table c.requires.head c.requires.table c.args.batches.now c.requires.batches c.args.group c.requires.next c.requires.group c.in_ok-rows.rows.items c.in_ok-rows.ensures.rows
    c.in_ok-next.next c.in_ok-next.ensures (g.D.Disk.state c.args.disk.now) (g.D.Disk.state c.write_sides.new.disk) (g.D.Disk.state c.write_table.new.disk) run (c.write_table.ensures.spares run.tells)
