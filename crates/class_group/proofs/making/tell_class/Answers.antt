use Rattle.std.proofs.Common.{List, ap, sym, subst}
use Rattle.turn_cell.specs.Notes.{IsPrefix}
use Rattle.turn_passes.proofs.Parts.{idle_ready}
use Rattle.class_model.specs.Replay.{LaneNote}
use Rattle.class_group.specs.Turns.{ClassTurns, place_of}
use Rattle.class_group.specs.Passes.{right_of, seen_in}
use Rattle.class_group.proofs.Lifting.{ready_in, told_in, seen_read, seen_set}
use Rattle.class_group.proofs.making.tell_class.Goals as goal

pub tell_pass-requires-clause-from : goal.tell_pass-requires-clause-from
tell_pass-requires-clause-from c within =
    let t = c.args.classes.now in
    let turns = c.classes.inside.cells.items in
    let at = c.place_of-at.result in
    let board = ap (λ (x : ClassTurns). x.cells) c.classes.view_is in
    idle_ready right_of c.requires.from.0 c.index.result.now c.index_mut.result.now
    (ready_in c.requires.from.0 t turns c.from.inside.cells.items c.args.from.now at (place_of c.args.class) c.index_mut.result.now board c.from.view_is c.place_of-at.ensures.place c.requires.from.1 c.place_of-at.ensures.within c.index_mut.ensures.value c.index.result.now c.index.ensures)

pub tell_pass-requires-clause-to : goal.tell_pass-requires-clause-to
tell_pass-requires-clause-to c within =
    let t = c.args.classes.now in
    let turns = c.classes.inside.cells.items in
    let at = c.place_of-at.result in
    let board = ap (λ (x : ClassTurns). x.cells) c.classes.view_is in
    idle_ready right_of c.requires.to.0 c.index.result.now c.index_mut-2.result.now
    (ready_in c.requires.to.0 t turns c.to.inside.cells.items c.args.to.now at (place_of c.args.class) c.index_mut-2.result.now board c.to.view_is c.place_of-at.ensures.place c.requires.to.1 c.place_of-at.ensures.within c.index_mut-2.ensures.value c.index.result.now c.index.ensures)

pub returns-clause-knows : goal.returns-clause-knows
returns-clause-knows c =
    let t = c.args.classes.now in
    let turns = c.classes.inside.cells.items in
    let at = c.place_of-at.result in
    let board = ap (λ (x : ClassTurns). x.cells) c.classes.view_is in
    subst (λ (h : List LaneNote). IsPrefix (seen_in c.args.from.now (place_of c.args.class)) h)
    (sym (seen_set c.requires.to.0 t turns c.to.inside.cells.items c.args.to.now at (place_of c.args.class) c.index_mut-2.result.now board c.to.view_is c.place_of-at.ensures.place c.requires.to.1 c.place_of-at.ensures.within c.index_mut-2.ensures.value c.tell_pass.new.to))
    (subst (λ (h : List LaneNote). IsPrefix h c.tell_pass.new.to.seen)
    (sym (seen_read c.requires.from.0 t turns c.from.inside.cells.items c.args.from.now at (place_of c.args.class) c.index_mut.result.now board c.from.view_is c.place_of-at.ensures.place c.requires.from.1 c.place_of-at.ensures.within c.index_mut.ensures.value))
    c.tell_pass.ensures.knows)

pub returns-clause-to : goal.returns-clause-to
returns-clause-to c = λ right seated.
    let t = c.args.classes.now in
    let turns = c.classes.inside.cells.items in
    let at = c.place_of-at.result in
    let board = ap (λ (x : ClassTurns). x.cells) c.classes.view_is in
    told_in right t turns c.to.inside.cells.items c.args.to.now at (place_of c.args.class) c.index_mut-2.result.now board c.to.view_is c.place_of-at.ensures.place seated c.place_of-at.ensures.within c.index_mut-2.ensures.value c.tell_pass.new.to
    (c.tell_pass.ensures.went right (ready_in right t turns c.to.inside.cells.items c.args.to.now at (place_of c.args.class) c.index_mut-2.result.now board c.to.view_is c.place_of-at.ensures.place seated c.place_of-at.ensures.within c.index_mut-2.ensures.value c.index.result.now c.index.ensures))
