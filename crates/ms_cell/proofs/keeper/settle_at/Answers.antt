use Rattle.std.proofs.Common.{◌<◌, length, sym, subst}
use Rattle.ms_cell.specs.Turns.{Turns, turns_in}
use Rattle.ms_cell.specs.Passes.{Passes}
use Rattle.ms_cell.proofs.Lifting.{turned_in, ready_in, below_in}
use Rattle.ms_cell.proofs.keeper.settle_at.Goals as goal

pub settle-requires-clause-ready : goal.settle-requires-clause-ready
settle-requires-clause-ready g c =
    let p : Passes = record { gate = c.passes.inside.gate; metaslabs = c.passes.inside.metaslabs.items } in
    let at = c.place_of-at.result in
    let there = subst (λ (t : Turns). at < length t.metaslabs) (sym c.cells.view_is) c.place_of-at.ensures.within in
    ready_in 0 (turns_in c.cells.inside) c.args.cells.now p c.args.passes.now at c.index-cell.result.now c.index_mut.result.now c.cells.view_is c.passes.view_is c.requires.seated there c.index-cell.ensures c.index_mut.ensures.value

pub returns : goal.returns
returns g c =
    let p : Passes = record { gate = c.passes.inside.gate; metaslabs = c.passes.inside.metaslabs.items } in
    let at = c.place_of-at.result in
    let there = subst (λ (t : Turns). at < length t.metaslabs) (sym c.cells.view_is) c.place_of-at.ensures.within in
    let below = below_in 0 (turns_in c.cells.inside) c.args.cells.now p c.args.passes.now at c.cells.view_is c.passes.view_is c.requires.seated there in
    turned_in 0 _ c.args.cells.now p c.args.passes.now at _ c.index_mut.result.now c.settle.new.pass c.passes.view_is c.place_of-at.ensures.place c.requires.seated below c.index_mut.ensures.value c.settle.ensures
