use Rattle.std.proofs.Common.{◌≡◌, ◌≤◌, List, refl, sym, ◌∙◌, ap, subst, arith}
use Rattle.zms_units.specs.declared.places.VdevRow.{VdevRow}
use Rattle.vdev_map.specs.Numbers.{IsIn, number_of, row_at}
use Rattle.vdev_map.specs.declared.layout.Layout.{Layout}
use Rattle.vdev_map.specs.declared.table.MsRow.{MsRow}
use Rattle.zdb_report.specs.Texts.{live_bytes, vacant_bytes}
use Rattle.zdb_report.proofs.Showing.{none_asked, live_asked, vacant_asked, few_each}
use Rattle.meta_store.specs.Heads.{head_of}
use Rattle.meta_store.specs.Words.{row_of, units_of}
use Rattle.meta_store.proofs.RowPlaces.{has_row}
use Rattle.zdb_report.proofs.classes.bytes_at.Goals as goal

pub returns-then-not-is_wanted-clause-live : goal.returns-then-not-is_wanted-clause-live
returns-then-not-is_wanted-clause-live g c = λ s told.
    let store = c.args.store.now in
    let id = c.id_of-id.result in
    let vdevs = c.as_slice-vdevs.result.now in
    let same : c.as_slice-vdevs.result.now ≡ c.args.store.now.table.vdevs = c.as_slice-vdevs.ensures ∙ ap (λ (l : Layout). l.vdevs) c.layout.ensures.layout ∙ sym c.layout.ensures.table.vdevs in
    let in_ : IsIn c.args.store.now.table.vdevs c.id_of-id.result = subst (λ (v : List VdevRow). IsIn v c.id_of-id.result) same c.id_of-id.ensures.id in
    let is : number_of c.args.store.now.table.vdevs c.id_of-id.result ≡ c.args.number = ap (λ (v : List VdevRow). number_of v c.id_of-id.result) (sym same) ∙ c.id_of-id.ensures.number in
    none_asked store.table c.args.number id s in_ is told c.args.asked live_bytes vdevs c.is_wanted.result same c.is_wanted.ensures c.if-not-is_wanted.true

pub returns-then-not-is_wanted-clause-vacant : goal.returns-then-not-is_wanted-clause-vacant
returns-then-not-is_wanted-clause-vacant g c = λ s told.
    let store = c.args.store.now in
    let id = c.id_of-id.result in
    let vdevs = c.as_slice-vdevs.result.now in
    let same : c.as_slice-vdevs.result.now ≡ c.args.store.now.table.vdevs = c.as_slice-vdevs.ensures ∙ ap (λ (l : Layout). l.vdevs) c.layout.ensures.layout ∙ sym c.layout.ensures.table.vdevs in
    let in_ : IsIn c.args.store.now.table.vdevs c.id_of-id.result = subst (λ (v : List VdevRow). IsIn v c.id_of-id.result) same c.id_of-id.ensures.id in
    let is : number_of c.args.store.now.table.vdevs c.id_of-id.result ≡ c.args.number = ap (λ (v : List VdevRow). number_of v c.id_of-id.result) (sym same) ∙ c.id_of-id.ensures.number in
    none_asked store.table c.args.number id s in_ is told c.args.asked vacant_bytes vdevs c.is_wanted.result same c.is_wanted.ensures c.if-not-is_wanted.true

pub returns-clause-live : goal.returns-clause-live
returns-clause-live g c = λ s told.
    let store = c.args.store.now in
    let id = c.id_of-id.result in
    let vdevs = c.as_slice-vdevs.result.now in
    let same : c.as_slice-vdevs.result.now ≡ c.args.store.now.table.vdevs = c.as_slice-vdevs.ensures ∙ ap (λ (l : Layout). l.vdevs) c.layout.ensures.layout ∙ sym c.layout.ensures.table.vdevs in
    let in_ : IsIn c.args.store.now.table.vdevs c.id_of-id.result = subst (λ (v : List VdevRow). IsIn v c.id_of-id.result) same c.id_of-id.ensures.id in
    let is : number_of c.args.store.now.table.vdevs c.id_of-id.result ≡ c.args.number = ap (λ (v : List VdevRow). number_of v c.id_of-id.result) (sym same) ∙ c.id_of-id.ensures.number in
    live_asked store.table c.args.number id s in_ is told c.args.asked vdevs c.is_wanted.result c.row.result.now c.bytes_of.result same c.is_wanted.ensures c.if-not-is_wanted.false c.row.ensures c.bytes_of.ensures

pub returns-clause-vacant : goal.returns-clause-vacant
returns-clause-vacant g c = λ s told.
    let store = c.args.store.now in
    let id = c.id_of-id.result in
    let vdevs = c.as_slice-vdevs.result.now in
    let same : c.as_slice-vdevs.result.now ≡ c.args.store.now.table.vdevs = c.as_slice-vdevs.ensures ∙ ap (λ (l : Layout). l.vdevs) c.layout.ensures.layout ∙ sym c.layout.ensures.table.vdevs in
    let in_ : IsIn c.args.store.now.table.vdevs c.id_of-id.result = subst (λ (v : List VdevRow). IsIn v c.id_of-id.result) same c.id_of-id.ensures.id in
    let is : number_of c.args.store.now.table.vdevs c.id_of-id.result ≡ c.args.number = ap (λ (v : List VdevRow). number_of v c.id_of-id.result) (sym same) ∙ c.id_of-id.ensures.number in
    vacant_asked store.table c.args.number id s in_ is told c.args.asked vdevs c.is_wanted.result c.row.result.now c.bytes_of-2.result same c.is_wanted.ensures c.if-not-is_wanted.false c.row.ensures c.bytes_of-2.ensures

pub returns-clause-few : goal.returns-clause-few
returns-clause-few g c =
    let store = c.args.store.now in
    let id = c.id_of-id.result in
    let vdevs = c.as_slice-vdevs.result.now in
    let same : c.as_slice-vdevs.result.now ≡ c.args.store.now.table.vdevs = c.as_slice-vdevs.ensures ∙ ap (λ (l : Layout). l.vdevs) c.layout.ensures.layout ∙ sym c.layout.ensures.table.vdevs in
    let in_ : IsIn c.args.store.now.table.vdevs c.id_of-id.result = subst (λ (v : List VdevRow). IsIn v c.id_of-id.result) same c.id_of-id.ensures.id in
    let is : number_of c.args.store.now.table.vdevs c.id_of-id.result ≡ c.args.number = ap (λ (v : List VdevRow). number_of v c.id_of-id.result) (sym same) ∙ c.id_of-id.ensures.number in
    let limits = c.layout.ensures.limits in
    let layout = c.layout.result.now in
    let here : c.as_slice-vdevs.result.now ≡ c.layout.result.now.vdevs = c.as_slice-vdevs.ensures in
    let in_layout = (subst (λ (v : List VdevRow). IsIn v c.id_of-id.result) here c.id_of-id.ensures.id).vdev in
    let row_here : row_at c.layout.result.now.vdevs c.id_of-id.result.vdev ≡ row_at c.as_slice-vdevs.result.now c.id_of-id.result.vdev = ap (λ (v : List VdevRow). row_at v c.id_of-id.result.vdev) (sym here) in
    let fits = c.layout.ensures.table.fits in
    let held : (row_of store.table id).held ≤ units_of store.table id = fits.held (number_of store.table.vdevs id) (has_row (head_of store.layout) store.table fits id in_) id in_ refl in
    let kept : c.row.result.now.held ≡ (row_of store.table id).held = ap (λ (r : MsRow). r.held) c.row.ensures in
    let units : (row_at vdevs id.vdev).units ≡ units_of store.table id = ap (λ (v : List VdevRow). (row_at v id.vdev).units) same in
    let all = (limits.vdevs.units id.vdev in_layout).most in
    let shift = (limits.vdevs.shifts id.vdev in_layout).most in
    few_each c.row.result.now.held (row_at vdevs id.vdev).units (row_at vdevs id.vdev).ashift c.bytes_of.result c.bytes_of-2.result
    (omega (arith, kept, units, held))
    (omega (arith, ap (λ (r : VdevRow). r.units) row_here, all)) (omega (arith, ap (λ (r : VdevRow). r.ashift) row_here, shift)) c.bytes_of.ensures c.bytes_of-2.ensures
