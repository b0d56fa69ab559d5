use Rattle.std.proofs.Common.{◌<◌, length, sym, subst}
use Rattle.turn_passes.proofs.Parts.{idle_ready}
use Rattle.ms_model.specs.Parts.{right_of}
use Rattle.ms_cell.specs.Turns.{Turns, turns_in}
use Rattle.ms_cell.specs.Passes.{Passes}
use Rattle.ms_cell.proofs.Lifting.{turned_in, ready_in, below_in}
use Rattle.ms_cell.proofs.lanes.look_at.Goals as goal

pub look-requires : goal.look-requires
look-requires g c =
    let p : Passes = record { gate = c.passes.inside.gate; metaslabs = c.passes.inside.metaslabs.items } in
    let at = c.place_of-at.result in
    let there = subst (λ (t : Turns). at < length t.metaslabs) (sym c.cells.view_is) c.place_of-at.ensures.within in
    idle_ready right_of c.requires.seated.0 c.index-cell.result.now c.index_mut.result.now
    (ready_in c.requires.seated.0 (turns_in c.cells.inside) c.args.cells.now p c.args.passes.now at c.index-cell.result.now c.index_mut.result.now c.cells.view_is c.passes.view_is c.requires.seated.1 there c.index-cell.ensures c.index_mut.ensures.value)

pub returns : goal.returns
returns g c = λ right seated.
    let p : Passes = record { gate = c.passes.inside.gate; metaslabs = c.passes.inside.metaslabs.items } in
    let at = c.place_of-at.result in
    let there = subst (λ (t : Turns). at < length t.metaslabs) (sym c.cells.view_is) c.place_of-at.ensures.within in
    let below = below_in right (turns_in c.cells.inside) c.args.cells.now p c.args.passes.now at c.cells.view_is c.passes.view_is seated there in
    let ready = ready_in right (turns_in c.cells.inside) c.args.cells.now p c.args.passes.now at c.index-cell.result.now c.index_mut.result.now c.cells.view_is c.passes.view_is seated there c.index-cell.ensures c.index_mut.ensures.value in
    turned_in right _ c.args.cells.now p c.args.passes.now at _ c.index_mut.result.now c.look.new.pass c.passes.view_is c.place_of-at.ensures.place seated below c.index_mut.ensures.value (c.look.ensures right ready)
