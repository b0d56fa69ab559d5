use Rattle.std.proofs.Common.{◌≡◌, length, sym, ap, ◌∙◌, subst, arith}
use Rattle.vdev_map.specs.Numbers.{metaslabs_in}
use Rattle.vdev_map.specs.declared.layout.Layout.{Layout}
use Rattle.ms_cell.specs.Turns.{Turns}
use Rattle.pool_keeper.proofs.Remembering.{number_within}
use Rattle.keeper_rows.proofs.opening.is_same.Goals as goal

pub returns-then-len-held : goal.returns-then-len-held
returns-then-len-held c counted =
    let t = c.args.cells.now in
    let many : length t.metaslabs ≡ metaslabs_in t.vdevs = subst (λ (x : Turns). length x.metaslabs ≡ metaslabs_in x.vdevs) c.cells.view_is c.cells.invariant.count in
    record {
      vdevs =
          sym (ap (λ (x : Turns). x.vdevs) c.cells.view_is) ∙ (sym c.as_slice.ensures
          ∙ (c.are_same.ensures c.if-not-are_same.false ∙ (c.as_slice-vdevs.ensures ∙ ap (λ (l : Layout). l.vdevs) c.layout.ensures.layout)));
      opened = c.is_opened.ensures c.if-not-is_opened.false;
      many = many;
      each = λ id inside.
          c.counts.ensures counted id inside
          (omega (arith, number_within t.vdevs id inside, many, c.len.ensures, c.if-len-held.true, ap (λ (x : Turns). length x.metaslabs) c.cells.view_is));
    }
