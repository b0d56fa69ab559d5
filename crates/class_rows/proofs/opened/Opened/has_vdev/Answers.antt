use Rattle.std.proofs.Common.{List, subst}
use Rattle.zms_units.specs.declared.places.VdevRow.{VdevRow}
use Rattle.class_model.specs.Replay.{IsVdevOf}
use Rattle.class_model.specs.declared.origin.ClassOrigin.{ClassOrigin}
use Rattle.class_core.specs.Classes.{HasClass}
use Rattle.class_rows.proofs.opened.Opened.has_vdev.Goals as goal

pub returns : goal.returns
returns c = λ e.
    subst (λ (o : ClassOrigin). IsVdevOf o c.args.vdev) c.self.view_is
    (c.self.invariant.vdevs c.args.vdev (subst (λ (l : List VdevRow). HasClass l c.self.inside.class c.args.vdev) c.as_slice.ensures (c.has_class.ensures e)))
