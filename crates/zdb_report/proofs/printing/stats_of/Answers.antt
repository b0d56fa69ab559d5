use Rattle.std.proofs.Common.{◌≡◌, List, sym, ◌∙◌, ap, subst}
use Rattle.zms_units.specs.declared.places.VdevRow.{VdevRow}
use Rattle.vdev_map.specs.Numbers.{IsIn}
use Rattle.vdev_map.specs.declared.layout.Layout.{Layout}
use Rattle.zdb_report.proofs.Showing.{stats_are}
use Rattle.zdb_report.proofs.printing.stats_of.Goals as goal

pub returns-clause-stats : goal.returns-clause-stats
returns-clause-stats g c =
    let store = c.args.store.now in
    let tied : store.table.vdevs ≡ store.layout.vdevs = c.layout.ensures.table.vdevs in
    let same : c.as_slice.result.now ≡ store.table.vdevs = c.as_slice.ensures ∙ ap (λ (l : Layout). l.vdevs) c.layout.ensures.layout ∙ sym tied in
    stats_are store.table c.args.id c.as_slice.result.now c.row-row.result.now c.args.held.now c.vacant_histogram-hist.result c.weight_of.result c.from.result
    (subst (λ (v : List VdevRow). IsIn v c.args.id) (sym tied) c.requires.id) same c.row-row.ensures c.requires.held c.requires.count c.vacant_histogram-hist.ensures c.weight_of.ensures c.from.ensures
