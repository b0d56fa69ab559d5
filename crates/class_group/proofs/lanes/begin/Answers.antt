use Rattle.std.proofs.Common.{ap, refl}
use Rattle.turn_passes.proofs.Parts.{idle_ready}
use Rattle.class_group.specs.Turns.{ClassTurns, place_of}
use Rattle.class_group.specs.Passes.{right_of}
use Rattle.class_group.proofs.Lifting.{turned_in, ready_in, origin_at}
use Rattle.class_group.proofs.Meeting.{begins_some, begins_none}
use Rattle.class_group.proofs.lanes.begin.Goals as goal

pub begin-requires : goal.begin-requires
begin-requires g c =
    let t = c.args.classes.now in
    let turns = c.classes.inside.cells.items in
    let p = c.passes.inside.cells.items in
    let at = c.place_of-at.result in
    let board = ap (λ (x : ClassTurns). x.cells) c.classes.view_is in
    idle_ready right_of c.requires.seated.0 c.index-cell.result.now c.index_mut.result.now
    (ready_in c.requires.seated.0 t turns p c.args.passes.now at (place_of c.args.class) c.index_mut.result.now board c.passes.view_is c.place_of-at.ensures.place c.requires.seated.1 c.place_of-at.ensures.within c.index_mut.ensures.value c.index-cell.result.now c.index-cell.ensures)

pub returns-clause-turned : goal.returns-clause-turned
returns-clause-turned g c = λ right seated.
    let t = c.args.classes.now in
    let turns = c.classes.inside.cells.items in
    let p = c.passes.inside.cells.items in
    let at = c.place_of-at.result in
    let board = ap (λ (x : ClassTurns). x.cells) c.classes.view_is in
    turned_in right t turns p c.args.passes.now at (place_of c.args.class) c.index_mut.result.now board c.passes.view_is c.place_of-at.ensures.place seated c.place_of-at.ensures.within c.index_mut.ensures.value _ c.begin.new.pass
    (c.begin.ensures right (ready_in right t turns p c.args.passes.now at (place_of c.args.class) c.index_mut.result.now board c.passes.view_is c.place_of-at.ensures.place seated c.place_of-at.ensures.within c.index_mut.ensures.value c.index-cell.result.now c.index-cell.ensures))

pub returns-clause-some : goal.returns-clause-some
returns-clause-some g c =
    let t = c.args.classes.now in
    let turns = c.classes.inside.cells.items in
    let p = c.passes.inside.cells.items in
    let at = c.place_of-at.result in
    let board = ap (λ (x : ClassTurns). x.cells) c.classes.view_is in
    begins_some t.vdevs t.weights c.args.class c.requires.seated.0 c.index_mut.result.now c.begin.new.pass
    (origin_at c.requires.seated.0 t turns p c.args.passes.now at (place_of c.args.class) c.index_mut.result.now board c.passes.view_is c.place_of-at.ensures.place c.requires.seated.1 c.place_of-at.ensures.within c.index_mut.ensures.value c.args.class refl) c.begin.result
    (c.begin.ensures c.requires.seated.0 (ready_in c.requires.seated.0 t turns p c.args.passes.now at (place_of c.args.class) c.index_mut.result.now board c.passes.view_is c.place_of-at.ensures.place c.requires.seated.1 c.place_of-at.ensures.within c.index_mut.ensures.value c.index-cell.result.now c.index-cell.ensures))

pub returns-clause-none : goal.returns-clause-none
returns-clause-none g c =
    let t = c.args.classes.now in
    let turns = c.classes.inside.cells.items in
    let p = c.passes.inside.cells.items in
    let at = c.place_of-at.result in
    let board = ap (λ (x : ClassTurns). x.cells) c.classes.view_is in
    begins_none t.vdevs t.weights c.args.class c.requires.seated.0 c.index_mut.result.now c.begin.new.pass
    (origin_at c.requires.seated.0 t turns p c.args.passes.now at (place_of c.args.class) c.index_mut.result.now board c.passes.view_is c.place_of-at.ensures.place c.requires.seated.1 c.place_of-at.ensures.within c.index_mut.ensures.value c.args.class refl) c.begin.result
    (c.begin.ensures c.requires.seated.0 (ready_in c.requires.seated.0 t turns p c.args.passes.now at (place_of c.args.class) c.index_mut.result.now board c.passes.view_is c.place_of-at.ensures.place c.requires.seated.1 c.place_of-at.ensures.within c.index_mut.ensures.value c.index-cell.result.now c.index-cell.ensures))
