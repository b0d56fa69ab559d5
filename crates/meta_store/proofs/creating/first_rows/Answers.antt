use Rattle.std.proofs.Common.{◌≡◌, ◌+◌, ◌++◌, ◌∷◌, [], List, sym, ◌∙◌, ap, subst, arith}
use Rattle.vdev_map.specs.declared.table.MsRow.{MsRow}
use Rattle.meta_store.specs.FirstGroups.{first_row, AreFirstRows}
use Rattle.meta_store.proofs.FirstTables.{first_rows_more}
use Rattle.meta_store.proofs.creating.first_rows.Goals as goal

pub loop-number-preserved : goal.loop-number-preserved
loop-number-preserved c =
    let head = c.args.head.now in
    let vdevs = c.args.vdevs.now in
    let id = c.id_of-id.result in
    let n = c.loop-number.number in
    let rows = c.loop-number.rows.items in
    let same : record { place = c.row_place.result; words = 0; unflushed = record { 0 = 5 }; held = 0; side = 0 } ≡ first_row head vdevs id =
    (λ i. record { place = c.row_place.ensures.place i; words = 0; unflushed = record { 0 = 5 }; held = 0; side = 0 }) in
    let pushed : c.push.new.self.items ≡ rows ++ first_row head vdevs id ∷ [] = c.in_ok-push.ensures.items ∙ ap (λ (row : MsRow). rows ++ row ∷ []) same in
    record {
      within = omega (arith, c.loop-number-test.true, c.count_metaslabs-number-end.ensures);
      rows = subst (λ (items : List MsRow). AreFirstRows head vdevs (n + 1) items) (sym pushed) (first_rows_more head vdevs rows n c.loop-number.invariant.rows id c.id_of-id.ensures.id c.id_of-id.ensures.number);
    }
