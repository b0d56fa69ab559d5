use Rattle.std.proofs.Common.{ap, refl}
use Rattle.vdev_map.specs.Numbers.{row_at}
use Rattle.class_group.specs.Turns.{ClassTurns, place_for, origin_from}
use Rattle.class_group.proofs.Lifting.{turned_in, ready_in, origin_at}
use Rattle.class_group.proofs.Meeting.{vdev_of, picks_within}
use Rattle.class_group.proofs.lanes.pick.Goals as goal

pub pick-requires-clause-vdev : goal.pick-requires-clause-vdev
pick-requires-clause-vdev g c =
    let t = c.args.classes.now in
    let turns = c.classes.inside.cells.items in
    let p = c.passes.inside.cells.items in
    let at = c.place_for-at.result in
    let board = ap (λ (x : ClassTurns). x.cells) c.classes.view_is in
    vdev_of t.vdevs t.weights (origin_from c.index_mut.result.now.fixed) c.args.vdev c.requires.vdev
    (origin_at c.args.lane t turns p c.args.passes.now at (place_for t.vdevs c.args.vdev) c.index_mut.result.now board c.passes.view_is c.place_for-at.ensures.place c.requires.seated c.place_for-at.ensures.within c.index_mut.ensures.value (row_at t.vdevs c.args.vdev).class refl)

pub pick-requires-clause-ready : goal.pick-requires-clause-ready
pick-requires-clause-ready g c =
    let t = c.args.classes.now in
    let turns = c.classes.inside.cells.items in
    let p = c.passes.inside.cells.items in
    let at = c.place_for-at.result in
    let board = ap (λ (x : ClassTurns). x.cells) c.classes.view_is in
    ready_in c.args.lane t turns p c.args.passes.now at (place_for t.vdevs c.args.vdev) c.index_mut.result.now board c.passes.view_is c.place_for-at.ensures.place c.requires.seated c.place_for-at.ensures.within c.index_mut.ensures.value c.index-cell.result.now c.index-cell.ensures

pub returns-clause-turned : goal.returns-clause-turned
returns-clause-turned g c =
    let t = c.args.classes.now in
    let turns = c.classes.inside.cells.items in
    let p = c.passes.inside.cells.items in
    let at = c.place_for-at.result in
    let board = ap (λ (x : ClassTurns). x.cells) c.classes.view_is in
    turned_in c.args.lane t turns p c.args.passes.now at (place_for t.vdevs c.args.vdev) c.index_mut.result.now board c.passes.view_is c.place_for-at.ensures.place c.requires.seated c.place_for-at.ensures.within c.index_mut.ensures.value _ c.pick.new.pass c.pick.ensures

pub returns-clause-within : goal.returns-clause-within
returns-clause-within g c =
    let t = c.args.classes.now in
    let turns = c.classes.inside.cells.items in
    let p = c.passes.inside.cells.items in
    let at = c.place_for-at.result in
    let board = ap (λ (x : ClassTurns). x.cells) c.classes.view_is in
    picks_within t.vdevs t.weights c.args.lane c.index_mut.result.now c.pick.new.pass c.args.vdev c.requires.vdev
    (origin_at c.args.lane t turns p c.args.passes.now at (place_for t.vdevs c.args.vdev) c.index_mut.result.now board c.passes.view_is c.place_for-at.ensures.place c.requires.seated c.place_for-at.ensures.within c.index_mut.ensures.value (row_at t.vdevs c.args.vdev).class refl)
    c.args.lane c.args.kind c.args.bytes c.args.start c.pick.result c.pick.ensures
