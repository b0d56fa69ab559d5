-- The rows of a table, and where their words lie.
use Rattle.std.proofs.Common.{◌≡◌, ℕ, ◌+◌, ◌*◌, ◌%◌, ◌<◌, ◌≤◌, length, refl, ap, subst, arith}
use Rattle.zms_units.specs.declared.places.MsId.{MsId}
use Rattle.vdev_map.specs.Numbers.{IsIn, number_of, metaslabs_in}
use Rattle.vdev_map.specs.Places.{place_of, words_len, room_of}
use Rattle.vdev_map.specs.Tables.{IsTable}
use Rattle.vdev_map.specs.declared.layout.Form.{Form}
use Rattle.vdev_map.specs.declared.layout.Form.TheVariants.{Whole}
use Rattle.vdev_map.specs.declared.layout.Head.{Head}
use Rattle.vdev_map.specs.declared.places.Piece.TheVariants.{WholeSlot}
use Rattle.vdev_map.specs.declared.table.Table.{Table}
use Rattle.vdev_map.proofs.InOrder.{before_within}
use Rattle.meta_store.specs.Words.{row_of, units_of, words_place}

module _ (head : Head) (table : Table) (fits : IsTable head table) (id : MsId) (in_ : IsIn table.vdevs id) where
  -- there is a row for each metaslab
  pub has_row : number_of table.vdevs id < length table.rows
  has_row =
      let within : number_of table.vdevs id + 1 ≤ metaslabs_in table.vdevs = before_within (λ _. 1) table.vdevs id in_ in
      let rows = fits.metaslab_rows in
      omega (arith, rows.one_each)

  pub place_is : words_place table id ≡ place_of head table.vdevs (WholeSlot id table.group)
  place_is = ap (λ (p : ℕ). p + words_len Whole (units_of table id) * (table.group.0 % 8)) (fits.places (number_of table.vdevs id) has_row id in_ refl)

  -- its words have room, and its units are within the limit
  pub units_few : units_of table id ≤ 131072
  units_few = let each = (fits.units id.vdev in_.vdev).each in each.most

  pub words_few : head.form ≡ Whole → (row_of table id).words ≤ units_of table id + 64
  words_few whole =
      subst (λ (form : Form). (row_of table id).words ≤ room_of form (units_of table id)) whole (fits.words (number_of table.vdevs id) has_row id in_ refl)
