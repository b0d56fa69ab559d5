use Rattle.std.proofs.Common.{List, sym, ap, ◌∙◌}
use Rattle.zms_units.specs.declared.places.VdevRow.{VdevRow}
use Rattle.vdev_map.specs.Places.{place_of}
use Rattle.vdev_map.specs.declared.places.Piece.TheVariants.{WholeSlot}
use Rattle.meta_store.proofs.RowPlaces.{place_is}
use Rattle.meta_store.proofs.finding.place_at.Goals as goal

pub returns : goal.returns
returns c =
    c.span_of.ensures.at ∙ ap (λ (vdevs : List VdevRow). place_of c.args.head.now vdevs (WholeSlot c.args.id c.args.table.now.group)) c.as_slice.ensures
    ∙ sym (place_is c.args.head.now c.args.table.now c.requires.table c.args.id c.requires.id)
