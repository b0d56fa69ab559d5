use Rattle.std.proofs.Common.{List, length, subst}
use Rattle.zms_units.specs.declared.places.VdevRow.{VdevRow}
use Rattle.class_core.specs.Opening.{AreGroups}
use Rattle.class_core.proofs.Opening.{kept_new, origin_new}
use Rattle.class_core.proofs.cell.ClassCell.new.Goals as goal

pub invariant_of-result : goal.invariant_of-result
invariant_of-result c =
    let rows = c.args.layout.now.vdevs in
    let groups = c.in_ok-groups.groups.items in
    let are : AreGroups rows c.args.class c.args.weights.now (length rows) groups =
    subst (λ (l : List VdevRow). AreGroups l c.args.class c.args.weights.now (length l) groups) c.as_slice.ensures c.in_ok-groups.ensures in
    rw c.new.ensures.items (rw c.of.ensures (kept_new rows c.args.class c.args.weights.now groups are))

pub returns-clause-origin : goal.returns-clause-origin
returns-clause-origin c =
    let rows = c.args.layout.now.vdevs in
    let groups = c.in_ok-groups.groups.items in
    let are : AreGroups rows c.args.class c.args.weights.now (length rows) groups =
    subst (λ (l : List VdevRow). AreGroups l c.args.class c.args.weights.now (length l) groups) c.as_slice.ensures c.in_ok-groups.ensures in
    rw c.of.ensures (origin_new rows c.args.class c.args.weights.now groups are)
