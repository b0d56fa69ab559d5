use Rattle.std.proofs.Common.{◌≡◌, true, false, refl, sym, ◌∙◌}
use Rattle.zms_units.specs.declared.places.VdevRow.{VdevRow}
use Rattle.run_text.specs.Tallies.{by_vdev, same_class, has_class}
use Rattle.run_text.proofs.ByVdev.{any_row}
use Rattle.run_text.proofs.totals.class_sums.Goals as goal

pub returns-then-has_class : goal.returns-then-has_class
returns-then-has_class c =
    let has : has_class c.args.class (by_vdev c.args.vdevs.now c.args.counts.now) ≡ true =
    any_row (λ (row : VdevRow). same_class c.args.class row.class) c.args.vdevs.now c.args.counts.now ∙ sym c.has_class.ensures ∙ c.if-has_class.true in
    rw (has, c.class_tally-sums.ensures) refl

pub returns-else-has_class : goal.returns-else-has_class
returns-else-has_class c =
    let none : has_class c.args.class (by_vdev c.args.vdevs.now c.args.counts.now) ≡ false =
    any_row (λ (row : VdevRow). same_class c.args.class row.class) c.args.vdevs.now c.args.counts.now ∙ sym c.has_class.ensures ∙ c.if-has_class.false in
    rw none refl
