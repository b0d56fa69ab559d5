use Rattle.std.proofs.Common.{◌≡◌, ◌++◌, refl, sym, ◌∙◌, ap, subst}
use Rattle.std.specs.List.{flat_map}
use Rattle.zms_dev.proofs.Prints.{took_first}
use Rattle.zms_units.specs.declared.segments.Group.{Group}
use Rattle.vdev_map.specs.Numbers.{metaslabs_in}
use Rattle.vdev_map.specs.declared.layout.Layout.{Layout}
use Rattle.vdev_map.specs.declared.table.Table.{Table}
use Rattle.zdb_report.specs.Stats.{AreRows}
use Rattle.zdb_report.specs.Texts.{metaslab_text, opening_text, closing_text}
use Rattle.zdb_report.proofs.Showing.{shown_rows}
use Rattle.zdb_report.proofs.Telling.{at_ok, no_err, all_handed, err_more, faulted_then, handed_faulted, none_faulted, not_written_faulted, write_faulted}
use Rattle.zdb_report.proofs.printing.report.Goals as goal

pub returns-clause-printed : goal.returns-clause-printed
returns-clause-printed g c =
    let store = c.args.store.now in
    let later = c.write_metaslabs.new.store in
    let table_is : later.table ≡ store.table = c.write_metaslabs.ensures.table in
    let layout_is : later.layout ≡ store.layout = c.write_metaslabs.ensures.layout in
    let all = at_ok _ _ c.in_ok-write_metaslabs.was c.write_metaslabs.ensures.shown in
    let rows : AreRows later.table all.0 = subst (λ (t : Table). AreRows t all.0) (sym table_is) (shown_rows _ store.table (metaslabs_in store.table.vdevs) all.0 all.1 refl) in
    let text_is : opening_text store.layout store.table.group.0 ++ (flat_map metaslab_text all.0 ++ closing_text store.layout.vdevs all.0)
    ≡ opening_text c.layout.result.now c.group.result.0 ++ (flat_map metaslab_text all.0 ++ closing_text later.layout.vdevs all.0) =
    ap (λ (l : Layout). opening_text l store.table.group.0 ++ (flat_map metaslab_text all.0 ++ closing_text store.layout.vdevs all.0)) (sym c.layout.ensures.layout)
    ∙ ap (λ (n : Group). opening_text c.layout.result.now n.0 ++ (flat_map metaslab_text all.0 ++ closing_text store.layout.vdevs all.0)) (sym c.group.ensures.group)
    ∙ ap (λ (l : Layout). opening_text c.layout.result.now c.group.result.0 ++ (flat_map metaslab_text all.0 ++ closing_text l.vdevs all.0)) (sym layout_is) in (
      opening_text store.layout store.table.group.0 ++ (flat_map metaslab_text all.0 ++ closing_text store.layout.vdevs all.0),
      record { stats = all.0; shown = all.1; text_is = refl },
      all_handed _ _ _ _ _ _ _ _ _ _ _ _ _ c.write_opening.ensures c.in_ok-write_opening.was all.2 c.in_ok-write_metaslabs.was (c.write_closing.ensures all.0 rows) c.in_ok-write_closing.was
          c.flush.ensures.taken c.flush.ensures.handed c.flush.ensures.cause c.in_ok-flush.was text_is,
    )

pub returns-in_err-write_closing-clause-faults : goal.returns-in_err-write_closing-clause-faults
returns-in_err-write_closing-clause-faults g c =
    let store = c.args.store.now in
    let later = c.write_metaslabs.new.store in
    let all = at_ok _ _ c.in_ok-write_metaslabs.was c.write_metaslabs.ensures.shown in
    let rows : AreRows later.table all.0 = subst (λ (t : Table). AreRows t all.0) (sym c.write_metaslabs.ensures.table) (shown_rows _ store.table (metaslabs_in store.table.vdevs) all.0 all.1 refl) in
    let opened = took_first _ _ _ _ _ c.write_opening.ensures c.in_ok-write_opening.was in
    let counts = c.write_metaslabs.ensures.faults in
    let device = counts.device_steady (λ e. no_err _ _ _ c.in_ok-write_metaslabs.was e) in
    let sink = counts.sink_steady (λ e. no_err _ _ _ c.in_ok-write_metaslabs.was e) ∙ opened.steady in
    faulted_then _ _ _ _ _ _ _ device sink (not_written_faulted _ _ _ _ _ _ _ _ refl (c.write_closing.ensures all.0 rows) c.in_err-write_closing.was c.from_residual-in_err-write_closing.ensures.1)

pub returns-in_err-flush-clause-faults : goal.returns-in_err-flush-clause-faults
returns-in_err-flush-clause-faults g c =
    let store = c.args.store.now in
    let later = c.write_metaslabs.new.store in
    let all = at_ok _ _ c.in_ok-write_metaslabs.was c.write_metaslabs.ensures.shown in
    let rows : AreRows later.table all.0 = subst (λ (t : Table). AreRows t all.0) (sym c.write_metaslabs.ensures.table) (shown_rows _ store.table (metaslabs_in store.table.vdevs) all.0 all.1 refl) in
    let opened = took_first _ _ _ _ _ c.write_opening.ensures c.in_ok-write_opening.was in
    let counts = c.write_metaslabs.ensures.faults in
    let device = counts.device_steady (λ e. no_err _ _ _ c.in_ok-write_metaslabs.was e) in
    let sink = counts.sink_steady (λ e. no_err _ _ _ c.in_ok-write_metaslabs.was e) ∙ opened.steady in
    let closed = took_first _ _ _ _ _ (c.write_closing.ensures all.0 rows) c.in_ok-write_closing.was in
    faulted_then _ _ _ _ _ _ _ device (closed.steady ∙ sink) (handed_faulted _ _ _ _ _ _ c.from_residual-in_err-flush.ensures.1 (write_faulted _ _ _ _ refl (err_more _ _ _ _ c.in_err-flush.was c.flush.ensures.cause)))

pub returns-clause-faults : goal.returns-clause-faults
returns-clause-faults g c =
    let store = c.args.store.now in
    let later = c.write_metaslabs.new.store in
    let all = at_ok _ _ c.in_ok-write_metaslabs.was c.write_metaslabs.ensures.shown in
    let rows : AreRows later.table all.0 = subst (λ (t : Table). AreRows t all.0) (sym c.write_metaslabs.ensures.table) (shown_rows _ store.table (metaslabs_in store.table.vdevs) all.0 all.1 refl) in
    let opened = took_first _ _ _ _ _ c.write_opening.ensures c.in_ok-write_opening.was in
    let counts = c.write_metaslabs.ensures.faults in
    let device = counts.device_steady (λ e. no_err _ _ _ c.in_ok-write_metaslabs.was e) in
    let sink = counts.sink_steady (λ e. no_err _ _ _ c.in_ok-write_metaslabs.was e) ∙ opened.steady in
    let closed = took_first _ _ _ _ _ (c.write_closing.ensures all.0 rows) c.in_ok-write_closing.was in
    none_faulted _ _ _ _ device (at_ok _ _ c.in_ok-flush.was c.flush.ensures.cause.steady ∙ closed.steady ∙ sink)
