use Rattle.std.proofs.Common.{◌≡◌, List, [], sym, ap, ◌∙◌, subst, arith}
use Rattle.std.proofs.lemmas.Option.{get_or_from_slice_get, slice_get_within}
use Rattle.zms_units.specs.declared.segments.Seg.{Seg}
use Rattle.zms_units.specs.Segments.{AreSegs}
use Rattle.vdev_map.specs.Numbers.{row_at, metaslabs_in}
use Rattle.ms_cell.specs.Passes.{Passes, AreFresh}
use Rattle.alloc_rows.proofs.Resting.{rests_at_first}
use Rattle.alloc_rows.proofs.pool.Pool.new.Goals as goal

pub make_cells-requires-clause-bases : goal.make_cells-requires-clause-bases
make_cells-requires-clause-bases c = record {
  count = omega (arith, c.in_ok-bases.ensures.count, c.len-2.ensures, c.len.ensures, c.total.ensures, c.if-total-len.false, ap metaslabs_in c.as_slice.ensures);
  each = λ id base inside at.
      let bases = c.in_ok-bases.bases.items in
      let none : base ≡ [] = sym (get_or_from_slice_get bases _ base base at) ∙ c.in_ok-bases.ensures.empty _ base (slice_get_within bases _ base at) in
      subst (λ (l : List Seg). AreSegs (row_at c.from_vec.result id.vdev).units l) (sym none) (omega arith);
}

pub invariant_of-result : goal.invariant_of-result
invariant_of-result c =
    rests_at_first c.in_ok-cells.cells c.in_ok-classes.classes c.new.result.keeper c.new.result.other _ _ c.new.result.collected _ _ (c.in_ok-classes.ensures.vdevs ∙ sym c.in_ok-cells.ensures.vdevs)
    (subst (λ (p : Passes). AreFresh 0 c.in_ok-cells.cells p) (sym c.new.ensures.keeper) c.in_ok-keeper.ensures.fresh) c.in_ok-next_cells.ensures.fresh
    (subst (λ (p : Passes). AreFresh 2 c.in_ok-cells.cells p) (sym c.new.ensures.other) c.in_ok-other.ensures.fresh) c.in_ok-other.ensures.rest c.in_ok-next_classes.ensures.fresh c.in_ok-next_classes.ensures.rest
