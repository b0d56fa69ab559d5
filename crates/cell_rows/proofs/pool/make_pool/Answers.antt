use Rattle.std.proofs.Common.{◌≡◌, List, [], subst, sym, ap, ◌∙◌, arith}
use Rattle.std.proofs.lemmas.Option.{get_or_from_slice_get, slice_get_within}
use Rattle.zms_units.specs.declared.segments.Seg.{Seg}
use Rattle.zms_units.specs.Segments.{AreSegs}
use Rattle.vdev_map.specs.Numbers.{row_at, metaslabs_in}
use Rattle.cell_rows.proofs.pool.make_pool.Goals as goal

pub make_cells-requires-clause-bases : goal.make_cells-requires-clause-bases
make_cells-requires-clause-bases c = record {
  count = c.in_ok-bases.ensures.count ∙ sym (ap metaslabs_in (c.from_vec-vdevs.ensures ∙ c.in_ok-rows.ensures.items));
  each = λ id base inside at.
      let bases = c.in_ok-bases.bases.items in
      let none : base ≡ [] = sym (get_or_from_slice_get bases _ base base at) ∙ c.in_ok-bases.ensures.empty _ base (slice_get_within bases _ base at) in
      subst (λ (l : List Seg). AreSegs (row_at c.from_vec-vdevs.result id.vdev).units l) (sym none) (omega arith);
}
