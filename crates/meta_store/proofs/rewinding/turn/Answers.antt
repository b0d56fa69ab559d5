use Rattle.std.proofs.Common.{◌+◌}
use Rattle.zms_dev.specs.Bytes.{Outside}
use Rattle.zms_dev.specs.Runs.{Before}
use Rattle.zms_dev.proofs.Moments.{weaker}
use Rattle.zms_dev.proofs.Sparing.{spares_less}
use Rattle.vdev_map.specs.Places.{slot_place}
use Rattle.meta_store.specs.Rewinds.{IsRewinding, IsNoGate}
use Rattle.meta_store.proofs.Turning.{turning, turned_more}
use Rattle.meta_store.proofs.rewinding.turn.Goals as goal

pub returns-in_err-close-clause-any_moment : goal.returns-in_err-close-clause-any_moment
returns-in_err-close-clause-any_moment g c opened start may =
    let old = g.D.Disk.state c.args.disk.now in
    weaker old (g.D.Disk.state c.close.new.disk) (Before old (Outside (slot_place c.args.group.0 + 1023) 1)) (IsRewinding opened start)
    (turning opened start old c.args.groups.now c.args.group may.long may.turned may.other may.entry) (c.close.ensures.spares may.turned.tells).any_moment

pub returns-clause-any_moment : goal.returns-clause-any_moment
returns-clause-any_moment g c opened start may =
    let old = g.D.Disk.state c.args.disk.now in
    weaker old (g.D.Disk.state c.close.new.disk) (Before old (Outside (slot_place c.args.group.0 + 1023) 1)) (IsRewinding opened start)
    (turning opened start old c.args.groups.now c.args.group may.long may.turned may.other may.entry) (c.close.ensures.spares may.turned.tells).any_moment

pub returns-clause-turned : goal.returns-clause-turned
returns-clause-turned g c opened start may =
    let old = g.D.Disk.state c.args.disk.now in
    let tells = may.turned.tells in
    turned_more opened start old c.args.groups.now c.args.group may.long may.turned may.other may.entry (g.D.Disk.state c.close.new.disk) (c.close.ensures.reads tells) (c.in_ok-close.ensures.written tells)
    c.requires (c.close.ensures.spares tells).tells (c.in_ok-close.ensures.durable tells)

pub returns-clause-spares : goal.returns-clause-spares
returns-clause-spares g c tells =
    spares_less (Outside (slot_place c.args.group.0 + 1023) 1) (g.D.Disk.state c.args.disk.now) (g.D.Disk.state c.close.new.disk) IsNoGate (λ p none. none c.args.group.0) (c.close.ensures.spares tells)
