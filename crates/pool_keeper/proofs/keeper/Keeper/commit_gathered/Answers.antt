use Rattle.std.proofs.Common.{◌≡◌, Some, ◌+◌, ◌++◌, ◌∷◌, [], ℕ, ap, sym, ◌∙◌, subst}
use Rattle.zms_units.specs.declared.segments.Group.{Group}
use Rattle.vdev_map.specs.declared.table.Table.{Table}
use Rattle.ms_model.specs.declared.notes.KeeperNote.{KeeperNote}
use Rattle.ms_model.specs.Gates.{synced_group}
use Rattle.ms_cell.specs.Passes.{Passes, Seated}
use Rattle.ms_cell.specs.GateAnswers.{IsClosedBefore}
use Rattle.pool_keeper.specs.Answers.{AreDue, IsSettled}
use Rattle.pool_keeper.specs.Keeper.{IsSound}
use Rattle.pool_keeper.specs.Notes.{note_of}
use Rattle.pool_keeper.proofs.Knowing.{gate_grows}
use Rattle.pool_keeper.proofs.Sound.{seated}
use Rattle.pool_keeper.proofs.Finishing.{all_due, gate_next, sound_committed, sound_uncommitted, sound_unmet, first_noted}
use Rattle.pool_keeper.proofs.keeper.Keeper.commit_gathered.Goals as goal

pub settle-requires-clause-seated : goal.settle-requires-clause-seated
settle-requires-clause-seated g c = subst (λ (p : Passes). Seated 0 c.args.cells.now p) (sym c.lay_down.ensures.passes) (seated g.D.Disk.state g.D.Disk.faults c.args.cells.now c.args.self.now c.requires.of c.requires.sound)

pub settle-requires-clause-due : goal.settle-requires-clause-due
settle-requires-clause-due g c =
    let group : Group = record { 0 = c.group.result.0 + 1 } in
    subst (λ (p : Passes). AreDue c.args.cells.now group p) (sym c.lay_down.ensures.passes)
    (all_due g.D.Disk.state g.D.Disk.faults c.args.cells.now c.args.self.now c.requires.of c.requires.sound group c.requires.gathered (ap (λ (x : Group). x.0 + 1) c.group.ensures.group))

pub settle-requires-clause-next : goal.settle-requires-clause-next
settle-requires-clause-next g c =
    let group : Group = record { 0 = c.group.result.0 + 1 } in
    subst (λ (p : Passes). group.0 ≡ synced_group c.args.cells.now.opened p.gate.seen + 1) (sym c.lay_down.ensures.passes)
    (gate_next g.D.Disk.state g.D.Disk.faults c.args.cells.now c.args.self.now c.requires.of c.requires.sound group (ap (λ (x : Group). x.0 + 1) c.group.ensures.group))

pub settle-requires-clause-closed : goal.settle-requires-clause-closed
settle-requires-clause-closed g c =
    subst (λ (p : Passes). IsClosedBefore c.args.cells.now.opened (c.group.result.0 + 1) p.gate.seen) (sym c.lay_down.ensures.passes)
    (subst (λ (n : ℕ). IsClosedBefore c.args.cells.now.opened (n + 1) c.args.self.now.passes.gate.seen) (sym (ap (λ (x : Group). x.0) c.group.ensures.group)) c.requires.closed)

pub returns-in-Ok-None-clause-sound : goal.returns-in-Ok-None-clause-sound
returns-in-Ok-None-clause-sound g c =
    let group : Group = record { 0 = c.group.result.0 + 1 } in
    let laid = rw c.in-Ok-None.field-0-is at c.in-Ok-None.ensures.laid c.requires.sound in
    let settled : IsSettled c.args.cells.now c.args.lane group c.args.self.now.passes c.settle.new.passes = subst (λ (p : Passes). IsSettled c.args.cells.now c.args.lane group p c.settle.new.passes) c.lay_down.ensures.passes c.settle.ensures in
    subst (λ x. IsSound g.D.Disk.state g.D.Disk.faults (record x { passes = c.settle.new.passes; gathered = c.clear.new.self })) (sym c.lay_down.ensures.rest)
    (sound_committed g.D.Disk.state g.D.Disk.faults c.args.cells.now c.args.self.now c.requires.of c.requires.sound c.args.lane group c.lay_down.new.self.store c.settle.new.passes c.clear.new.self c.requires.gathered c.requires.idle
    (ap (λ (x : Group). x.0 + 1) c.group.ensures.group) laid settled c.clear.ensures.items)

pub returns-in-Ok-None-clause-group : goal.returns-in-Ok-None-clause-group
returns-in-Ok-None-clause-group g c = let laid = rw c.in-Ok-None.field-0-is at c.in-Ok-None.ensures.laid c.requires.sound in laid.group

pub returns-in-Ok-None-clause-later : goal.returns-in-Ok-None-clause-later
returns-in-Ok-None-clause-later g c =
    let group : Group = record { 0 = c.group.result.0 + 1 } in
    let settled : IsSettled c.args.cells.now c.args.lane group c.args.self.now.passes c.settle.new.passes = subst (λ (p : Passes). IsSettled c.args.cells.now c.args.lane group p c.settle.new.passes) c.lay_down.ensures.passes c.settle.ensures in
    gate_grows 0 settled.events c.args.self.now.passes c.settle.new.passes settled.journey

pub returns-in-Ok-Some-clause-sound : goal.returns-in-Ok-Some-clause-sound
returns-in-Ok-Some-clause-sound g c =
    let laid = rw c.in-Ok-Some.field-0-is at c.in-Ok-Some.ensures.laid c.requires.sound in
    let noted : c.push_reserved.new.self.items ≡ c.args.self.now.notes.items ++ (c.args.lane, note_of c.in-Ok-Some.first) ∷ [] =
    c.push_reserved.ensures.items
    ∙ (ap (λ (n : KeeperNote). c.lay_down.new.self.notes.items ++ (c.args.lane, n) ∷ []) c.note_of.ensures
    ∙ ap (λ v. v.items ++ (c.args.lane, note_of c.in-Ok-Some.first) ∷ []) c.lay_down.ensures.notes) in
    subst (λ x. IsSound g.D.Disk.state g.D.Disk.faults (record x { first = Some c.in-Ok-Some.first; notes = c.push_reserved.new.self })) (sym c.lay_down.ensures.rest)
    (sound_uncommitted g.D.Disk.state g.D.Disk.faults c.args.cells.now c.args.self.now c.requires.of c.requires.sound (Some c.in-Ok-Some.first) c.lay_down.new.self.store c.push_reserved.new.self laid
    (first_noted g.D.Disk.state g.D.Disk.faults c.args.cells.now c.args.self.now c.requires.of c.requires.sound c.args.lane c.in-Ok-Some.first c.push_reserved.new.self.items c.requires.idle noted))

pub returns-in-Ok-Some-clause-group : goal.returns-in-Ok-Some-clause-group
returns-in-Ok-Some-clause-group g c = let laid = rw c.in-Ok-Some.field-0-is at c.in-Ok-Some.ensures.laid c.requires.sound in ap (λ (x : Table). x.group.0) laid.table

pub returns-in-Err-clause-sound : goal.returns-in-Err-clause-sound
returns-in-Err-clause-sound g c =
    subst (λ x. IsSound g.D.Disk.state g.D.Disk.faults x) (sym c.lay_down.ensures.rest)
    (sound_unmet g.D.Disk.state g.D.Disk.faults c.args.cells.now c.args.self.now c.requires.of c.requires.sound c.lay_down.new.self.store c.requires.idle (c.in-Err.ensures.laid c.requires.sound))

pub returns-in-Err-clause-err : goal.returns-in-Err-clause-err
returns-in-Err-clause-err g c = (c.lay_down.ensures.first ∙ c.requires.idle, (c.lay_down.ensures.notes, let laid = c.in-Err.ensures.laid c.requires.sound in laid.table))
