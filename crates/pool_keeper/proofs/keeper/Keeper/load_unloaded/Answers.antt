use Rattle.std.proofs.Common.{◌≡◌, ◌<◌, ◌++◌, List, true, sym, ◌∙◌, ap, subst}
use Rattle.std.specs.Prelude.{vec_len, vec_capacity, IfOk}
use Rattle.lane_steps.proofs.Steps.{prefix_whole}
use Rattle.turn_cell.specs.Notes.{IsPrefix}
use Rattle.zms_units.specs.Segments.{AreSegs, covered}
use Rattle.zms_units.specs.declared.segments.Seg.{Seg}
use Rattle.vdev_map.specs.Numbers.{row_at, number_of}
use Rattle.ms_cell.specs.Passes.{Passes, seen_in}
use Rattle.ms_cell.specs.Loads.{IsPlace}
use Rattle.pool_keeper.specs.Commits.{IsOnDevice}
use Rattle.pool_keeper.specs.Keeper.{IsOf, IsSound}
use Rattle.pool_keeper.specs.Notes.{noted}
use Rattle.pool_keeper.proofs.Results.{on_err, met_notes, met_first, met_some}
use Rattle.pool_keeper.proofs.Finishing.{still_on_device, sound_uncommitted, sound_unmet, met_noted}
use Rattle.pool_keeper.proofs.keeper.Keeper.load_unloaded.Goals as goal

pub hand-requires-clause-of : goal.hand-requires-clause-of
hand-requires-clause-of g c = subst (λ x. IsOf c.args.cells.now x.start) (sym c.read.ensures.rest) c.requires.of

pub hand-requires-clause-sound : goal.hand-requires-clause-sound
hand-requires-clause-sound g c =
    subst (λ x. IsSound g.D.Disk.state g.D.Disk.faults x) (sym c.read.ensures.rest)
    (sound_unmet g.D.Disk.state g.D.Disk.faults c.args.cells.now c.args.self.now c.requires.of c.requires.sound c.read.new.self.store c.requires.idle (c.in-Ok.ensures.read c.requires.sound))

pub hand-requires-clause-idle : goal.hand-requires-clause-idle
hand-requires-clause-idle g c = ap (λ x. x.first) c.read.ensures.rest ∙ c.requires.idle

pub hand-requires-clause-segs : goal.hand-requires-clause-segs
hand-requires-clause-segs g c = subst (AreSegs (row_at c.args.cells.now.vdevs c.args.id.vdev).units) (sym c.deref.ensures.value) c.in-Ok.ensures.runs

pub hand-requires-clause-finds : goal.hand-requires-clause-finds
hand-requires-clause-finds g c =
    subst (λ x. (s : IsSound g.D.Disk.state g.D.Disk.faults x) × IsOnDevice g.D.Disk.state g.D.Disk.faults x s c.args.id (covered c.deref.result.now)) (sym c.read.ensures.rest)
    (subst (λ (l : List Seg). (s : IsSound g.D.Disk.state g.D.Disk.faults (record c.args.self.now { store = c.read.new.self.store })) × IsOnDevice g.D.Disk.state g.D.Disk.faults (record c.args.self.now { store = c.read.new.self.store }) s c.args.id (covered l)) (sym c.deref.ensures.value)
    (still_on_device g.D.Disk.state g.D.Disk.faults c.args.cells.now c.args.self.now c.requires.of c.requires.sound c.read.new.self.store c.args.id (covered c.in-Ok.runs.items) c.requires.idle (c.in-Ok.ensures.read c.requires.sound) (c.in-Ok.ensures.finds c.requires.sound)))

pub hand-requires-clause-room : goal.hand-requires-clause-room
hand-requires-clause-room g c = subst (λ x. vec_len x.notes < vec_capacity x.notes) (sym c.read.ensures.rest) c.requires.room

pub returns-in-Ok-clause-start : goal.returns-in-Ok-clause-start
returns-in-Ok-clause-start g c = c.hand.ensures.start ∙ ap (λ x. x.start) c.read.ensures.rest

pub returns-in-Ok-clause-notes : goal.returns-in-Ok-clause-notes
returns-in-Ok-clause-notes g c =
    subst (λ x. IfOk c.hand.result (λ first. c.hand.new.self.notes.items ≡ x.notes.items ++ noted c.args.lane first)) c.read.ensures.rest c.hand.ensures.notes

pub returns-in-Ok-clause-later : goal.returns-in-Ok-clause-later
returns-in-Ok-clause-later g c =
    subst (λ (p : Passes). IsPrefix (seen_in p (number_of c.args.cells.now.vdevs c.args.id)) (seen_in c.hand.new.self.passes (number_of c.args.cells.now.vdevs c.args.id))) (ap (λ x. x.passes) c.read.ensures.rest) c.hand.ensures.later

pub returns-in-Ok-clause-loaded : goal.returns-in-Ok-clause-loaded
returns-in-Ok-clause-loaded g c = λ is.
    subst (λ (p : Passes). IsPlace true (number_of c.args.cells.now.vdevs c.args.id) p c.hand.new.self.passes) (ap (λ x. x.passes) c.read.ensures.rest) (c.hand.ensures.loaded is)

pub returns-in-Ok-clause-err : goal.returns-in-Ok-clause-err
returns-in-Ok-clause-err g c = on_err c.hand.result (λ e. e.1 ∙ ap (λ x. x.notes) c.read.ensures.rest) c.hand.ensures.err

pub meet-requires-clause-idle : goal.meet-requires-clause-idle
meet-requires-clause-idle g c = ap (λ x. x.first) c.read.ensures.rest ∙ c.requires.idle

pub meet-requires-clause-room : goal.meet-requires-clause-room
meet-requires-clause-room g c = subst (λ x. vec_len x.notes < vec_capacity x.notes) (sym c.read.ensures.rest) c.requires.room

pub returns-in-Err-clause-sound : goal.returns-in-Err-clause-sound
returns-in-Err-clause-sound g c =
    let laid = c.in-Err.ensures.read c.requires.sound in
    let noted_is : c.meet.new.self.notes.items ≡ c.args.self.now.notes.items ++ noted c.args.lane c.in-Err.met =
    c.meet.ensures.notes ∙ ap (λ x. x.notes.items ++ noted c.args.lane c.in-Err.met) c.read.ensures.rest in
    subst (λ x. IsSound g.D.Disk.state g.D.Disk.faults x) (sym c.meet.ensures.rest)
    (subst (λ x. IsSound g.D.Disk.state g.D.Disk.faults (record x { first = c.in-Err.met; notes = c.meet.new.self.notes })) (sym c.read.ensures.rest)
    (sound_uncommitted g.D.Disk.state g.D.Disk.faults c.args.cells.now c.args.self.now c.requires.of c.requires.sound c.in-Err.met c.read.new.self.store c.meet.new.self.notes laid
    (met_noted g.D.Disk.state g.D.Disk.faults c.args.cells.now c.args.self.now c.requires.of c.requires.sound c.args.lane c.in-Err.met c.meet.new.self.notes.items c.requires.idle noted_is)))

pub returns-in-Err-clause-start : goal.returns-in-Err-clause-start
returns-in-Err-clause-start g c = ap (λ x. x.start) c.meet.ensures.rest ∙ ap (λ x. x.start) c.read.ensures.rest

pub returns-in-Err-clause-notes : goal.returns-in-Err-clause-notes
returns-in-Err-clause-notes g c =
    met_notes c.meet.result c.in-Err.met c.args.lane c.args.self.now.notes.items c.meet.new.self.notes.items (c.meet.ensures.notes ∙ ap (λ x. x.notes.items ++ noted c.args.lane c.in-Err.met) c.read.ensures.rest) c.meet.ensures.answer

pub returns-in-Err-clause-later : goal.returns-in-Err-clause-later
returns-in-Err-clause-later g c =
    subst (λ p. IsPrefix (seen_in c.args.self.now.passes (number_of c.args.cells.now.vdevs c.args.id)) (seen_in p (number_of c.args.cells.now.vdevs c.args.id)))
    (sym (ap (λ x. x.passes) c.meet.ensures.rest ∙ ap (λ x. x.passes) c.read.ensures.rest)) (prefix_whole _)

pub returns-in-Err-clause-loaded : goal.returns-in-Err-clause-loaded
returns-in-Err-clause-loaded g c = λ is. absurd (met_some c.meet.result c.in-Err.met c.meet.ensures.answer is)

pub returns-in-Err-clause-err : goal.returns-in-Err-clause-err
returns-in-Err-clause-err g c = on_err c.meet.result (λ e. e ∙ ap (λ x. x.notes) c.read.ensures.rest) c.meet.ensures.err

pub returns-in-Err-clause-first : goal.returns-in-Err-clause-first
returns-in-Err-clause-first g c = met_first c.meet.result c.in-Err.met c.meet.new.self.first (ap (λ x. x.first) c.meet.ensures.rest) c.meet.ensures.answer
