use Rattle.std.proofs.Common.{◌≡◌, List, true, false, refl, sym, ◌∙◌, ap}
use Rattle.std.specs.List.{list_any}
use Rattle.zms_units.specs.declared.places.VdevRow.{VdevRow}
use Rattle.vdev_map.specs.declared.layout.Layout.{Layout}
use Rattle.zdb_report.specs.Texts.{same_class}
use Rattle.zdb_report.proofs.classes.class_sums.Goals as goal

pub returns-then-has_class : goal.returns-then-has_class
returns-then-has_class g c = λ stats rows.
    let has : list_any (λ (row : VdevRow). same_class c.args.class row.class) c.args.store.now.layout.vdevs ≡ true =
    ap (λ (v : List VdevRow). list_any (λ (row : VdevRow). same_class c.args.class row.class) v) (sym (c.as_slice.ensures ∙ ap (λ (l : Layout). l.vdevs) c.layout.ensures.layout)) ∙ sym c.has_class.ensures ∙ c.if-has_class.true in
    rw (has, c.sums_of-sums.ensures.live stats rows, c.sums_of-sums.ensures.vacant stats rows) refl

pub returns-else-has_class : goal.returns-else-has_class
returns-else-has_class g c = λ stats rows.
    let none : list_any (λ (row : VdevRow). same_class c.args.class row.class) c.args.store.now.layout.vdevs ≡ false =
    ap (λ (v : List VdevRow). list_any (λ (row : VdevRow). same_class c.args.class row.class) v) (sym (c.as_slice.ensures ∙ ap (λ (l : Layout). l.vdevs) c.layout.ensures.layout)) ∙ sym c.has_class.ensures ∙ c.if-has_class.false in
    rw none refl
