use Rattle.std.proofs.Common.{◌<◌, List, length, sym, subst}
use Rattle.turn_cell.specs.Notes.{IsPrefix}
use Rattle.turn_passes.proofs.Parts.{idle_ready}
use Rattle.ms_model.specs.Parts.{right_of}
use Rattle.ms_model.specs.declared.notes.Noted.{Noted}
use Rattle.ms_cell.specs.Turns.{Turns, turns_in}
use Rattle.ms_cell.specs.Passes.{Passes, seen_in}
use Rattle.vdev_map.specs.Numbers.{number_of}
use Rattle.ms_cell.proofs.Lifting.{ready_in, below_in, told_in, seen_read, seen_set}
use Rattle.ms_cell.proofs.making.tell_at.Goals as goal

pub tell_pass-requires-clause-from : goal.tell_pass-requires-clause-from
tell_pass-requires-clause-from g c κs within =
    let at = c.place_of-at.result in
    let p : Passes = record { gate = c.from.inside.gate; metaslabs = c.from.inside.metaslabs.items } in
    let there = subst (λ (t : Turns). at < length t.metaslabs) (sym c.cells.view_is) c.place_of-at.ensures.within in
    let right = c.requires.from.0 in
    idle_ready right_of right c.index.result.now c.index_mut.result.now
    (ready_in right (turns_in c.cells.inside) c.args.cells.now p c.args.from.now at c.index.result.now c.index_mut.result.now c.cells.view_is c.from.view_is c.requires.from.1 there c.index.ensures c.index_mut.ensures.value)

pub tell_pass-requires-clause-to : goal.tell_pass-requires-clause-to
tell_pass-requires-clause-to g c κs within =
    let at = c.place_of-at.result in
    let p : Passes = record { gate = c.to.inside.gate; metaslabs = c.to.inside.metaslabs.items } in
    let there = subst (λ (t : Turns). at < length t.metaslabs) (sym c.cells.view_is) c.place_of-at.ensures.within in
    let right = c.requires.to.0 in
    idle_ready right_of right c.index.result.now c.index_mut-2.result.now
    (ready_in right (turns_in c.cells.inside) c.args.cells.now p c.args.to.now at c.index.result.now c.index_mut-2.result.now c.cells.view_is c.to.view_is c.requires.to.1 there c.index.ensures c.index_mut-2.ensures.value)

pub returns-clause-knows : goal.returns-clause-knows
returns-clause-knows g c =
    let at = c.place_of-at.result in
    let p : Passes = record { gate = c.from.inside.gate; metaslabs = c.from.inside.metaslabs.items } in
    let there = subst (λ (t : Turns). at < length t.metaslabs) (sym c.cells.view_is) c.place_of-at.ensures.within in
    let q : Passes = record { gate = c.to.inside.gate; metaslabs = c.to.inside.metaslabs.items } in
    let k = number_of c.args.cells.now.vdevs c.args.id in
    let place = c.place_of-at.ensures.place in
    let below = below_in c.requires.from.0 (turns_in c.cells.inside) c.args.cells.now p c.args.from.now at c.cells.view_is c.from.view_is c.requires.from.1 there in
    let under = below_in c.requires.to.0 (turns_in c.cells.inside) c.args.cells.now q c.args.to.now at c.cells.view_is c.to.view_is c.requires.to.1 there in
    subst (λ (h : List Noted). IsPrefix (seen_in c.args.from.now k) h) (seen_set q at k c.tell_pass.new.to place under)
    (subst (λ (h : List Noted). IsPrefix h c.tell_pass.new.to.seen) (sym (seen_read p c.args.from.now at k c.index_mut.result.now c.from.view_is place below c.index_mut.ensures.value)) c.tell_pass.ensures.knows)

pub returns-clause-to : goal.returns-clause-to
returns-clause-to g c = λ right seated.
    let at = c.place_of-at.result in
    let p : Passes = record { gate = c.to.inside.gate; metaslabs = c.to.inside.metaslabs.items } in
    let there = subst (λ (t : Turns). at < length t.metaslabs) (sym c.cells.view_is) c.place_of-at.ensures.within in
    let below = below_in right (turns_in c.cells.inside) c.args.cells.now p c.args.to.now at c.cells.view_is c.to.view_is seated there in
    told_in right c.args.cells.now p c.args.to.now at c.index_mut-2.result.now c.tell_pass.new.to c.to.view_is seated below c.index_mut-2.ensures.value
    (c.tell_pass.ensures.went right (ready_in right (turns_in c.cells.inside) c.args.cells.now p c.args.to.now at c.index.result.now c.index_mut-2.result.now c.cells.view_is c.to.view_is seated there c.index.ensures c.index_mut-2.ensures.value))
