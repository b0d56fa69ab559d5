use Rattle.std.proofs.Common.{◌≡◌, ap, arith}
use Rattle.vdev_map.specs.declared.table.MsRow.{MsRow}
use Rattle.meta_store.specs.Words.{row_of}
use Rattle.meta_store.proofs.RowPlaces.{units_few, words_few}
use Rattle.meta_store.proofs.finding.find.Goals as goal

pub read_words-requires : goal.read_words-requires
read_words-requires g c =
    let head = c.args.head.now in
    let table = c.args.table.now in
    let is : c.row_at-row.result.now.words ≡ (row_of table c.args.id).words = ap (λ (row : MsRow). row.words) c.row_at-row.ensures in
    omega (arith, units_few head table c.requires.table c.args.id c.requires.id, words_few head table c.requires.table c.args.id c.requires.id c.requires.head.whole)
