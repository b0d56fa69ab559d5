use Rattle.std.proofs.Common.{◌≡◌, List, sym, ◌∙◌, subst}
use Rattle.zms_units.specs.declared.places.VdevRow.{VdevRow}
use Rattle.vdev_map.specs.Numbers.{metaslabs_in}
use Rattle.vdev_map.specs.declared.layout.Head.{Head}
use Rattle.vdev_map.specs.declared.table.Table.{Table}
use Rattle.meta_store.specs.Creates.{IsFirstTable}
use Rattle.meta_store.specs.FirstGroups.{AreFirstRows}
use Rattle.meta_store.specs.Heads.{head_of}
use Rattle.meta_store.proofs.FirstTables.{is_first_table}
use Rattle.meta_store.proofs.creating.first_table.Goals as goal

pub returns : goal.returns
returns c =
    let layout = c.args.layout.now in
    let rows = c.in_ok-rows.rows.items in
    let vdevs : c.from_vec.result ≡ layout.vdevs = c.from_vec.ensures ∙ c.in_ok-vdevs.ensures.items ∙ c.as_slice-2.ensures in
    let are : AreFirstRows (head_of layout) layout.vdevs (metaslabs_in layout.vdevs) rows =
    subst (λ (h : Head). AreFirstRows h layout.vdevs (metaslabs_in layout.vdevs) rows) c.head_for.ensures
    (subst (λ (v : List VdevRow). AreFirstRows c.head_for.result v (metaslabs_in v) rows) c.as_slice.ensures c.in_ok-rows.ensures) in
    subst (λ (t : Table). IsFirstTable layout t) (λ i. record { group = record { 0 = 4 }; vdevs = sym vdevs i; logs = sym c.new.ensures i; rows = sym c.from_vec-2.ensures i })
    (is_first_table layout c.requires rows are)
