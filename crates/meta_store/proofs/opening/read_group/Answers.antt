use Rattle.std.proofs.Common.{List, ℕ, subst}
use Rattle.zms_dev.specs.Disk.{bytes_of}
use Rattle.zms_units.specs.declared.places.MsId.{MsId}
use Rattle.vdev_map.specs.Numbers.{IsIn}
use Rattle.uber_ring.specs.TableFields.{HasTable}
use Rattle.meta_store.specs.Groups.{IsSound}
use Rattle.meta_store.proofs.Layouts.{store_limits, store_opened}
use Rattle.meta_store.proofs.opening.read_group.Goals as goal

pub returns-clause-limits : goal.returns-clause-limits
returns-clause-limits g c =
    store_limits c.in_ok-head.head c.in_ok-table.table c.in_ok-layout.layout c.in_ok-layout.ensures c.in_ok-head.ensures.limits c.in_ok-table.ensures.limits

pub returns-clause-opened : goal.returns-clause-opened
returns-clause-opened g c tells valid =
    let image = bytes_of (g.D.Disk.state c.args.disk.now) in
    let rests = c.in_ok-head.ensures.rests tells in
    let head = c.in_ok-head.head in
    let table = c.in_ok-table.table in
    store_opened head table c.in_ok-layout.layout c.in_ok-layout.ensures c.in_ok-head.ensures.limits image c.args.uber.now c.if-uber-ge-GROUPS_END.false valid (c.in_ok-head.ensures.head tells)
    (subst (λ (b : List ℕ). HasTable b head c.args.uber.now table) rests.contents (c.in_ok-table.ensures.table rests.tells))
    (subst (λ (b : List ℕ). (id : MsId) → IsIn table.vdevs id → IsSound b table id) rests.contents (c.in_ok-table.ensures.sound rests.tells))
