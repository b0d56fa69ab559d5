use Rattle.std.proofs.Common.{true, false, Bool, Ok, ap, sym, ◌∙◌, subst}
use Rattle.lane_steps.proofs.Steps.{prefix_whole}
use Rattle.turn_cell.specs.Notes.{IsPrefix}
use Rattle.vdev_map.specs.Numbers.{number_of}
use Rattle.ms_cell.specs.Passes.{Passes, seen_in}
use Rattle.ms_cell.specs.Loads.{IsPlace}
use Rattle.pool_keeper.proofs.Loads.{sound_rose, load_noted, place_wider, place_grows, unloaded}
use Rattle.pool_keeper.proofs.keeper.Keeper.load.Goals as goal

pub returns-in-Ok-None-clause-loaded : goal.returns-in-Ok-None-clause-loaded
returns-in-Ok-None-clause-loaded g c =
    let here = number_of c.args.cells.now.vdevs c.args.id in
    let is = c.load_unloaded.ensures.loaded (c.in-Ok-None.is ∙ ap Ok c.in-Ok-None.field-0-is) in
    place_wider true here c.args.self.now.passes c.make_room.new.self.passes c.load_unloaded.new.self.passes c.load_unloaded.new.self.passes
    (subst (λ (p : Passes). IsPrefix (seen_in c.args.self.now.passes here) (seen_in p here)) (sym (ap (λ x. x.passes) c.make_room.ensures.rest)) (place_grows c.see.result here c.args.self.now.passes c.see.new.self.passes c.see.ensures.place)) (prefix_whole _) is

pub returns-in-Ok-Some-clause-noted : goal.returns-in-Ok-Some-clause-noted
returns-in-Ok-Some-clause-noted g c =
    load_noted c.args.lane c.in-Ok-Some.first _ c.load_fault.result c.note_of.result c.load_fault.ensures c.note_of.ensures
    (sound_rose g.D.Disk.state g.D.Disk.faults c.load_unloaded.new.self c.in-Ok-Some.first c.load_unloaded.ensures.sound (c.in-Ok-Some.ensures.first ∙ c.in-Ok-Some.field-0-is))

pub returns-in-Ok-Some-clause-loaded : goal.returns-in-Ok-Some-clause-loaded
returns-in-Ok-Some-clause-loaded g c =
    let here = number_of c.args.cells.now.vdevs c.args.id in
    let place = subst (λ (b : Bool). IsPlace b here c.args.self.now.passes c.see.new.self.passes) c.if-see.false c.see.ensures.place in
    unloaded c.in-Ok-Some.first c.load_fault.result here c.args.self.now.passes c.load_unloaded.new.self.passes c.load_fault.ensures
    (place_wider false here c.args.self.now.passes c.args.self.now.passes c.see.new.self.passes c.load_unloaded.new.self.passes (prefix_whole _)
    (subst (λ (p : Passes). IsPrefix (seen_in p here) (seen_in c.load_unloaded.new.self.passes here)) (ap (λ x. x.passes) c.make_room.ensures.rest) c.load_unloaded.ensures.later) place)
