use Rattle.std.proofs.Common.{◌≡◌}
use Rattle.zms_units.specs.declared.places.VdevRow.{VdevRow}
use Rattle.cmd_text.proofs.Bytes.{if_none}
use Rattle.vdev_text.specs.Specs.{IsVdev, vdev_text}
use Rattle.vdev_text.proofs.OneVdev.{class_cut, shift_cut, no_shift, no_units, AreFields, fields_of}
use Rattle.vdev_text.proofs.vdev.read_vdev.Goals as goal
use Rattle.vdev_text.proofs.vdev.read_vdev.Goals.{In_ok-units}

fields_read : (c : In_ok-units) (row : VdevRow) → IsVdev row → vdev_text row ≡ c.args.text.now
    → AreFields row c.in_ok-class.class.now c.in_ok-ashift.ashift.now c.in_ok-units.units.now c.in_ok-units.metaslabs.now
fields_read c row is same =
    fields_of row is c.args.text.now c.in_ok-class.class.now c.in_ok-class.rest.now c.in_ok-ashift.ashift.now c.in_ok-ashift.rest.now c.in_ok-units.units.now c.in_ok-units.metaslabs.now same
    c.in_ok-class.ensures.some.0 c.in_ok-class.ensures.some.1 c.in_ok-ashift.ensures.some.0 c.in_ok-ashift.ensures.some.1 c.in_ok-units.ensures.some.0 c.in_ok-units.ensures.some.1

pub returns-in_err-ashift-clause-none : goal.returns-in_err-ashift-clause-none
returns-in_err-ashift-clause-none c =
    if_none c.from_residual-in_err-ashift.result _ (λ row is same.
    no_shift row is c.in_ok-class.rest.now
    (class_cut row is c.args.text.now c.in_ok-class.class.now c.in_ok-class.rest.now same c.in_ok-class.ensures.some.0 c.in_ok-class.ensures.some.1).1 c.in_err-ashift.ensures.none)

pub returns-in_err-units-clause-none : goal.returns-in_err-units-clause-none
returns-in_err-units-clause-none c =
    if_none c.from_residual-in_err-units.result _ (λ row is same.
    let first = class_cut row is c.args.text.now c.in_ok-class.class.now c.in_ok-class.rest.now same c.in_ok-class.ensures.some.0 c.in_ok-class.ensures.some.1 in
    let second = shift_cut row is c.in_ok-class.rest.now c.in_ok-ashift.ashift.now c.in_ok-ashift.rest.now first.1 c.in_ok-ashift.ensures.some.0 c.in_ok-ashift.ensures.some.1 in
    no_units row is c.in_ok-ashift.rest.now second.1 c.in_err-units.ensures.none)

pub returns-in_err-class-2-clause-none : goal.returns-in_err-class-2-clause-none
returns-in_err-class-2-clause-none c =
    if_none c.from_residual-in_err-class-2.result _ (λ row is same.
    c.in_err-class-2.ensures.none row.class (fields_read (goal.at.returns-in_err-class-2-clause-none c).In_ok-units row is same).class_is)

pub returns-in_err-ashift-2-clause-none : goal.returns-in_err-ashift-2-clause-none
returns-in_err-ashift-2-clause-none c =
    if_none c.from_residual-in_err-ashift-2.result _ (λ row is same.
    c.in_err-ashift-2.ensures.none row.ashift (record { low = is.shift.least; high = is.shift.most }) (fields_read (goal.at.returns-in_err-ashift-2-clause-none c).In_ok-units row is same).shift_is)

pub returns-in_err-units-2-clause-none : goal.returns-in_err-units-2-clause-none
returns-in_err-units-2-clause-none c =
    if_none c.from_residual-in_err-units-2.result _ (λ row is same.
    c.in_err-units-2.ensures.none row.units (record { low = is.units.least; high = is.units.most }) (fields_read (goal.at.returns-in_err-units-2-clause-none c).In_ok-units row is same).units_is)

pub returns-in_err-metaslabs-clause-none : goal.returns-in_err-metaslabs-clause-none
returns-in_err-metaslabs-clause-none c =
    if_none c.from_residual-in_err-metaslabs.result _ (λ row is same.
    c.in_err-metaslabs.ensures.none row.metaslabs is.metaslabs (fields_read (goal.at.returns-in_err-metaslabs-clause-none c).In_ok-units row is same).metaslabs_is)
