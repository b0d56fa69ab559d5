use Rattle.std.proofs.Common.{◌≡◌, ◌+◌, ◌*◌, ◌≤◌, ◌∙◌, List, length, ap, arith}
use Rattle.zms_units.specs.declared.places.VdevRow.{VdevRow}
use Rattle.vdev_map.specs.Places.{place_of, len_of}
use Rattle.vdev_map.specs.declared.places.Piece.TheVariants.{WholeSlot}
use Rattle.meta_store.specs.NextWords.{side_place}
use Rattle.meta_store.specs.Words.{units_of}
use Rattle.meta_store.proofs.NextTables.{side_spares}
use Rattle.meta_store.proofs.laying.write_side.Goals as goal

pub returns-in_err-write_words-clause-spares : goal.returns-in_err-write_words-clause-spares
returns-in_err-write_words-clause-spares g c tells =
    let table = c.args.table.now in
    let rests = c.in_ok-words.ensures.rests tells in
    let room : length c.in_ok-words.words.items ≤ units_of table c.args.id + 64 = c.in_ok-words.ensures.room in
    let len : length c.deref.result.now ≡ length c.in_ok-words.words.items = ap length c.deref.ensures.value in
    side_spares (g.D.Disk.state c.args.disk.now) (g.D.Disk.state c.next_words.new.disk) (g.D.Disk.state c.write_words.new.disk) c.span_of-span.result.at (8 * length c.deref.result.now)
    (side_place c.args.head.now table c.args.id c.args.group) (len_of c.args.head.now table.vdevs (WholeSlot c.args.id c.args.group))
    (c.span_of-span.ensures.at ∙ ap (λ (vdevs : List VdevRow). place_of c.args.head.now vdevs (WholeSlot c.args.id c.args.group)) c.as_slice.ensures)
    (omega (arith, len, room)) rests (c.write_words.ensures.spares rests.tells)

pub returns-clause-spares : goal.returns-clause-spares
returns-clause-spares g c tells =
    let table = c.args.table.now in
    let rests = c.in_ok-words.ensures.rests tells in
    let room : length c.in_ok-words.words.items ≤ units_of table c.args.id + 64 = c.in_ok-words.ensures.room in
    let len : length c.deref.result.now ≡ length c.in_ok-words.words.items = ap length c.deref.ensures.value in
    side_spares (g.D.Disk.state c.args.disk.now) (g.D.Disk.state c.next_words.new.disk) (g.D.Disk.state c.write_words.new.disk) c.span_of-span.result.at (8 * length c.deref.result.now)
    (side_place c.args.head.now table c.args.id c.args.group) (len_of c.args.head.now table.vdevs (WholeSlot c.args.id c.args.group))
    (c.span_of-span.ensures.at ∙ ap (λ (vdevs : List VdevRow). place_of c.args.head.now vdevs (WholeSlot c.args.id c.args.group)) c.as_slice.ensures)
    (omega (arith, len, room)) rests (c.write_words.ensures.spares rests.tells)
