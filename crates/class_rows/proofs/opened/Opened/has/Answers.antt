use Rattle.std.proofs.Common.{◌<◌, List, subst, arith}
use Rattle.zms_units.specs.declared.places.VdevRow.{VdevRow}
use Rattle.vdev_map.specs.Numbers.{row_at}
use Rattle.class_model.specs.Replay.{IsIn}
use Rattle.class_model.specs.declared.origin.ClassOrigin.{ClassOrigin}
use Rattle.class_core.specs.Classes.{HasClass}
use Rattle.class_rows.proofs.opened.Opened.has.Goals as goal

pub returns : goal.returns
returns c = λ e.
    let id = c.args.id in
    let both = subst (λ (l : List VdevRow). HasClass l c.self.inside.class id.vdev × (id.index < (row_at l id.vdev).metaslabs)) c.as_slice.ensures (c.has_metaslab.ensures e) in
    let is = c.self.invariant.vdevs id.vdev both.0 in
    subst (λ (o : ClassOrigin). IsIn o id) c.self.view_is (record { vdev = is; index = omega (arith, both.1, c.self.invariant.metaslabs id.vdev is) })
