use Rattle.std.proofs.Common.{◌≡◌, ◌+◌, ◌∙◌, ◌++◌, ◌∷◌, [], ℕ, List, length, refl, sym, ap, subst, arith}
use Rattle.std.specs.Prelude.{if◌then◌else◌, drop}
use Rattle.zms_dev.specs.Bytes.{Outside}
use Rattle.zms_dev.specs.Disk.{bytes_of}
use Rattle.zms_dev.proofs.Sparing.{spares_less, spares_none, spares_then}
use Rattle.zms_units.specs.declared.places.VdevRow.{VdevRow}
use Rattle.vdev_map.specs.Numbers.{IsIn, number_of}
use Rattle.vdev_map.specs.Places.{len_of}
use Rattle.vdev_map.specs.declared.places.Piece.TheVariants.{WholeSlot}
use Rattle.vdev_map.specs.declared.table.MsRow.{MsRow}
use Rattle.meta_store.specs.CommitFaults.{IsCommitFault}
use Rattle.meta_store.specs.NextGroups.{OffWords}
use Rattle.meta_store.specs.NextRows.{AreNextRows, HasNextRows, IsRest, is_first_of}
use Rattle.meta_store.specs.NextWords.{allocs_of, frees_of, side_place}
use Rattle.meta_store.proofs.BatchOrder.{rest_none, rest_more}
use Rattle.meta_store.proofs.Handing.{handed_on}
use Rattle.meta_store.proofs.NextTables.{next_rows_none, next_rows_more, next_words_more, words_from, fault_from}
use Rattle.meta_store.proofs.laying.write_sides.Goals as goal

pub loop-number-init : goal.loop-number-init
loop-number-init g c =
    let table = c.args.table.now in
    record {
      within = omega arith;
      rest = rest_none table c.args.batches.now c.requires.batches;
      rows = next_rows_none table c.args.group.0 c.args.batches.now c.new-rows.result.items c.new-rows.ensures.items;
      words = λ tells keeps id in_ lt. absurd (omega arith);
      spares = λ tells. spares_none (OffWords c.args.head.now table.vdevs c.args.group) (g.D.Disk.state c.args.disk.now) tells (g.met.D.Disk.only_now c.args.disk.now);
      flushes = λ tells. refl;
      steady = refl;
    }

pub write_next-requires-clause-next : goal.write_next-requires-clause-next
write_next-requires-clause-next g c =
    let table = c.args.table.now in
    let id = c.id_of-id.result in
    let number = ap (λ (vdevs : List VdevRow). number_of vdevs id) (sym c.as_slice.ensures) ∙ c.id_of-id.ensures.number in
    subst (λ (n : ℕ). IsRest table.vdevs c.args.batches.now n c.loop-number.next) (sym number) c.loop-number.invariant.rest

pub returns-in_err-row-clause-fault : goal.returns-in_err-row-clause-fault
returns-in_err-row-clause-fault g c tells keeps =
    let table = c.args.table.now in
    let old = bytes_of (g.D.Disk.state c.args.disk.now) in
    let mid = bytes_of (g.D.Disk.state c.loop-number.disk) in
    let run = c.loop-number.invariant.spares tells in
    handed_on c.from_residual.result c.in_err-row.field-0.0 (IsCommitFault old table) c.from_residual.ensures.1
    (fault_from old mid table (λ id in_. keeps mid run.contents id in_) c.in_err-row.field-0.0 (c.in_err-row.ensures.fault run.tells))

pub returns-in_err-row-clause-spares : goal.returns-in_err-row-clause-spares
returns-in_err-row-clause-spares g c tells =
    let table = c.args.table.now in
    let head = c.args.head.now in
    let id = c.id_of-id.result in
    let old = g.D.Disk.state c.args.disk.now in
    let mid = g.D.Disk.state c.loop-number.disk in
    let new = g.D.Disk.state c.write_next.new.disk in
    let in_ = subst (λ (vdevs : List VdevRow). IsIn vdevs id) c.as_slice.ensures c.id_of-id.ensures.id in
    let run = c.loop-number.invariant.spares tells in
    let off = OffWords head table.vdevs c.args.group in
    spares_then off old mid new run
    (spares_less (Outside (side_place head table id c.args.group) (len_of head table.vdevs (WholeSlot id c.args.group))) mid new off (λ p out. out id in_) (c.write_next.ensures.spares run.tells))

pub returns-in_err-push-clause-spares : goal.returns-in_err-push-clause-spares
returns-in_err-push-clause-spares g c tells =
    let table = c.args.table.now in
    let head = c.args.head.now in
    let id = c.id_of-id.result in
    let old = g.D.Disk.state c.args.disk.now in
    let mid = g.D.Disk.state c.loop-number.disk in
    let new = g.D.Disk.state c.write_next.new.disk in
    let in_ = subst (λ (vdevs : List VdevRow). IsIn vdevs id) c.as_slice.ensures c.id_of-id.ensures.id in
    let run = c.loop-number.invariant.spares tells in
    let off = OffWords head table.vdevs c.args.group in
    spares_then off old mid new run
    (spares_less (Outside (side_place head table id c.args.group) (len_of head table.vdevs (WholeSlot id c.args.group))) mid new off (λ p out. out id in_) (c.write_next.ensures.spares run.tells))

pub loop-number-preserved : goal.loop-number-preserved
loop-number-preserved g c =
    let table = c.args.table.now in
    let head = c.args.head.now in
    let group = c.args.group in
    let batches = c.args.batches.now in
    let id = c.id_of-id.result in
    let n = c.loop-number.number in
    let old = g.D.Disk.state c.args.disk.now in
    let mid = g.D.Disk.state c.loop-number.disk in
    let new = g.D.Disk.state c.write_next.new.disk in
    let was = c.loop-number.invariant in
    let row = c.in_ok-row.row in
    let rows = c.loop-number.rows.items in
    let in_ = subst (λ (vdevs : List VdevRow). IsIn vdevs id) c.as_slice.ensures c.id_of-id.ensures.id in
    let number : number_of table.vdevs id ≡ n = ap (λ (vdevs : List VdevRow). number_of vdevs id) (sym c.as_slice.ensures) ∙ c.id_of-id.ensures.number in
    let off = OffWords head table.vdevs group in
    let pushed : c.push.new.self.items ≡ rows ++ row ∷ [] = c.in_ok-push.ensures.items in
    record {
      within = omega (arith, c.len-number-end.ensures, c.loop-number-test.true);
      rest =
          subst (λ (m : ℕ). IsRest table.vdevs batches (n + 1) m) (sym c.after_next-next.ensures)
          (subst (λ (k : ℕ). IsRest table.vdevs batches (k + 1) (if is_first_of (drop c.loop-number.next batches) id then c.loop-number.next + 1 else c.loop-number.next)) number
          (rest_more table batches c.loop-number.next id in_ (subst (λ (k : ℕ). IsRest table.vdevs batches k c.loop-number.next) (sym number) was.rest) (record { id = id; allocs = []; frees = [] }) c.requires.batches.each));
      rows = subst (λ (items : List MsRow). AreNextRows table group.0 batches (n + 1) items) (sym pushed) (next_rows_more table rows row n was.rows.count id in_ number group.0 batches was.rows c.in_ok-row.ensures.row);
      words = λ tells keeps.
          let run = was.spares tells in
          subst (λ (items : List MsRow). HasNextRows (bytes_of old) (bytes_of new) head table group batches (n + 1) items) (sym pushed)
          (next_words_more table rows row n was.rows.count id in_ number (bytes_of old) (bytes_of mid) (bytes_of new) head group batches c.requires.head.whole (was.words tells keeps)
          (c.write_next.ensures.spares run.tells).contents c.requires.table (λ other other_in lt. (was.rows.each other other_in lt).words)
          (words_from (bytes_of old) (bytes_of mid) (bytes_of new) head table group id (allocs_of batches id) (frees_of batches id) row.words (keeps (bytes_of mid) run.contents id in_) (c.in_ok-row.ensures.words run.tells)));
      spares = λ tells.
          let run = was.spares tells in
          spares_then off old mid new run
          (spares_less (Outside (side_place head table id group) (len_of head table.vdevs (WholeSlot id group))) mid new off (λ p out. out id in_) (c.write_next.ensures.spares run.tells));
      flushes = λ tells. c.write_next.ensures.flushes (was.spares tells).tells ∙ was.flushes tells;
      steady = c.in_ok-row.ensures.steady (λ e. absurd (cc)) ∙ was.steady;
    }

pub returns-clause-rows : goal.returns-clause-rows
returns-clause-rows g c =
    let table = c.args.table.now in
    let was = c.loop-number.invariant in
    let all : c.loop-number.number ≡ length table.rows = omega (arith, was.within, c.len-number-end.ensures, c.loop-number-test.false) in
    subst (λ (n : ℕ). AreNextRows table c.args.group.0 c.args.batches.now n c.loop-number.rows.items) all was.rows

pub returns-clause-words : goal.returns-clause-words
returns-clause-words g c tells keeps =
    let table = c.args.table.now in
    let was = c.loop-number.invariant in
    let all : c.loop-number.number ≡ length table.rows = omega (arith, was.within, c.len-number-end.ensures, c.loop-number-test.false) in
    subst (λ (n : ℕ). HasNextRows (bytes_of (g.D.Disk.state c.args.disk.now)) (bytes_of (g.D.Disk.state c.loop-number.disk)) c.args.head.now table c.args.group c.args.batches.now n c.loop-number.rows.items) all (was.words tells keeps)
