use Rattle.std.proofs.Common.{ap, refl}
use Rattle.vdev_map.specs.Numbers.{row_at}
use Rattle.class_group.specs.Turns.{ClassTurns, place_for, origin_from}
use Rattle.class_group.proofs.Lifting.{turned_in, ready_in, origin_at}
use Rattle.class_group.proofs.Meeting.{id_of}
use Rattle.class_group.proofs.lanes.missed.Goals as goal

pub missed-requires-clause-id : goal.missed-requires-clause-id
missed-requires-clause-id g c =
    let t = c.args.classes.now in
    let turns = c.classes.inside.cells.items in
    let p = c.passes.inside.cells.items in
    let at = c.place_for-at.result in
    let board = ap (λ (x : ClassTurns). x.cells) c.classes.view_is in
    id_of t.vdevs t.weights (origin_from c.index_mut.result.now.fixed) c.args.id c.requires.id
    (origin_at c.args.lane t turns p c.args.passes.now at (place_for t.vdevs c.args.id.vdev) c.index_mut.result.now board c.passes.view_is c.place_for-at.ensures.place c.requires.seated c.place_for-at.ensures.within c.index_mut.ensures.value (row_at t.vdevs c.args.id.vdev).class refl)

pub missed-requires-clause-ready : goal.missed-requires-clause-ready
missed-requires-clause-ready g c =
    let t = c.args.classes.now in
    let turns = c.classes.inside.cells.items in
    let p = c.passes.inside.cells.items in
    let at = c.place_for-at.result in
    let board = ap (λ (x : ClassTurns). x.cells) c.classes.view_is in
    ready_in c.args.lane t turns p c.args.passes.now at (place_for t.vdevs c.args.id.vdev) c.index_mut.result.now board c.passes.view_is c.place_for-at.ensures.place c.requires.seated c.place_for-at.ensures.within c.index_mut.ensures.value c.index-cell.result.now c.index-cell.ensures

pub returns : goal.returns
returns g c =
    let t = c.args.classes.now in
    let turns = c.classes.inside.cells.items in
    let p = c.passes.inside.cells.items in
    let at = c.place_for-at.result in
    let board = ap (λ (x : ClassTurns). x.cells) c.classes.view_is in
    turned_in c.args.lane t turns p c.args.passes.now at (place_for t.vdevs c.args.id.vdev) c.index_mut.result.now board c.passes.view_is c.place_for-at.ensures.place c.requires.seated c.place_for-at.ensures.within c.index_mut.ensures.value _ c.missed.new.pass c.missed.ensures
