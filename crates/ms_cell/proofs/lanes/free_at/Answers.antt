use Rattle.ms_model.specs.Legal.{IsWithin}
use Rattle.std.proofs.Common.{ℕ, ◌<◌, length, sym, subst}
use Rattle.ms_cell.specs.Turns.{Turns, turns_in}
use Rattle.ms_cell.specs.Passes.{Passes}
use Rattle.ms_cell.proofs.Lifting.{turned_in, ready_in, below_in, units_in}
use Rattle.ms_cell.proofs.lanes.free_at.Goals as goal

pub free-requires-clause-ready : goal.free-requires-clause-ready
free-requires-clause-ready g c =
    let p : Passes = record { gate = c.passes.inside.gate; metaslabs = c.passes.inside.metaslabs.items } in
    let at = c.place_of-at.result in
    let there = subst (λ (t : Turns). at < length t.metaslabs) (sym c.cells.view_is) c.place_of-at.ensures.within in
    ready_in c.args.lane (turns_in c.cells.inside) c.args.cells.now p c.args.passes.now at c.index-cell.result.now c.index_mut.result.now c.cells.view_is c.passes.view_is c.requires.seated there c.index-cell.ensures c.index_mut.ensures.value

pub returns : goal.returns
returns g c =
    let p : Passes = record { gate = c.passes.inside.gate; metaslabs = c.passes.inside.metaslabs.items } in
    let at = c.place_of-at.result in
    let there = subst (λ (t : Turns). at < length t.metaslabs) (sym c.cells.view_is) c.place_of-at.ensures.within in
    let below = below_in c.args.lane (turns_in c.cells.inside) c.args.cells.now p c.args.passes.now at c.cells.view_is c.passes.view_is c.requires.seated there in
    turned_in c.args.lane _ c.args.cells.now p c.args.passes.now at _ c.index_mut.result.now c.free.new.pass c.passes.view_is c.place_of-at.ensures.place c.requires.seated below c.index_mut.ensures.value c.free.ensures

pub free-requires-clause-segment : goal.free-requires-clause-segment
free-requires-clause-segment g c =
    let p : Passes = record { gate = c.passes.inside.gate; metaslabs = c.passes.inside.metaslabs.items } in
    let at = c.place_of-at.result in
    let there = subst (λ (t : Turns). at < length t.metaslabs) (sym c.cells.view_is) c.place_of-at.ensures.within in
    let below = below_in c.args.lane (turns_in c.cells.inside) c.args.cells.now p c.args.passes.now at c.cells.view_is c.passes.view_is c.requires.seated there in
    subst (λ (n : ℕ). IsWithin n c.args.seg) (units_in c.args.lane c.args.cells.now p c.args.passes.now at c.index_mut.result.now c.args.id c.passes.view_is c.requires.seated below c.index_mut.ensures.value c.place_of-at.ensures.one_to_one) c.requires.segment
