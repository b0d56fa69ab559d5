use Rattle.std.proofs.Common.{◌++◌, ◌∷◌, [], inl, ◌∙◌, ap}
use Rattle.ms_model.specs.declared.notes.KeeperNote.{KeeperNote}
use Rattle.pool_keeper.proofs.Knowing.{seen_grows}
use Rattle.pool_keeper.proofs.Sound.{seated}
use Rattle.pool_keeper.proofs.Handing.{sound_handed, handed_same, sound_damaged, loaded_place, load_note, place_within}
use Rattle.pool_keeper.proofs.keeper.Keeper.hand.Goals as goal

pub load_at-requires-clause-seated : goal.load_at-requires-clause-seated
load_at-requires-clause-seated g c = seated g.D.Disk.state g.D.Disk.faults c.args.cells.now c.args.self.now c.requires.of c.requires.sound

pub returns-in-Ok-None-clause-sound : goal.returns-in-Ok-None-clause-sound
returns-in-Ok-None-clause-sound g c =
    let turn = c.load_at.ensures in
    sound_handed g.D.Disk.state g.D.Disk.faults c.args.cells.now c.args.self.now c.requires.of c.requires.sound c.args.lane _ _ c.load_at.new.passes turn.journey (load_note c.args.lane _ _ _ _ _ turn.answer)

pub returns-in-Ok-None-clause-loaded : goal.returns-in-Ok-None-clause-loaded
returns-in-Ok-None-clause-loaded g c = λ is.
    loaded_place c.args.lane _ _ c.args.self.now.passes c.load_at.new.passes (rw c.in-Ok-None.field-0-is at c.in-Ok-None.ensures)
    (place_within g.D.Disk.state g.D.Disk.faults c.args.cells.now c.args.self.now c.requires.of c.requires.sound c.args.id c.requires.id)

pub returns-in-Ok-Some-clause-sound : goal.returns-in-Ok-Some-clause-sound
returns-in-Ok-Some-clause-sound g c =
    let turn = rw c.in-Ok-Some.field-0-is at c.in-Ok-Some.ensures in
    let s = c.requires.finds.0 in
    let handed = sound_handed g.D.Disk.state g.D.Disk.faults c.args.cells.now c.args.self.now c.requires.of s c.args.lane _ _ c.load_at.new.passes turn.journey (inl turn.answer.0) in
    sound_damaged g.D.Disk.state g.D.Disk.faults c.args.cells.now (record c.args.self.now { passes = c.load_at.new.passes }) c.requires.of handed c.args.lane c.args.id _ c.push_reserved.new.self c.requires.idle
    (c.push_reserved.ensures.items ∙ ap (λ (n : KeeperNote). c.args.self.now.notes.items ++ (c.args.lane, n) ∷ []) c.note_of.ensures)
    (handed_same g.D.Disk.state g.D.Disk.faults c.args.cells.now c.args.self.now c.requires.of s c.args.lane c.args.id _ c.in-Ok-Some.unit c.load_at.new.passes c.requires.id turn c.requires.finds.1)

pub returns-in-Err-clause-sound : goal.returns-in-Err-clause-sound
returns-in-Err-clause-sound g c =
    let turn = c.load_at.ensures in
    sound_handed g.D.Disk.state g.D.Disk.faults c.args.cells.now c.args.self.now c.requires.of c.requires.sound c.args.lane _ _ c.load_at.new.passes turn.journey (load_note c.args.lane _ _ _ _ _ turn.answer)

pub returns-in-Ok-None-clause-later : goal.returns-in-Ok-None-clause-later
returns-in-Ok-None-clause-later g c =
    let turn = c.load_at.ensures in
    seen_grows 0 _ c.args.self.now.passes c.load_at.new.passes turn.journey _ (place_within g.D.Disk.state g.D.Disk.faults c.args.cells.now c.args.self.now c.requires.of c.requires.sound c.args.id c.requires.id)

pub returns-in-Ok-Some-clause-later : goal.returns-in-Ok-Some-clause-later
returns-in-Ok-Some-clause-later g c =
    let turn = c.load_at.ensures in
    seen_grows 0 _ c.args.self.now.passes c.load_at.new.passes turn.journey _ (place_within g.D.Disk.state g.D.Disk.faults c.args.cells.now c.args.self.now c.requires.of c.requires.sound c.args.id c.requires.id)

pub returns-in-Err-clause-later : goal.returns-in-Err-clause-later
returns-in-Err-clause-later g c =
    let turn = c.load_at.ensures in
    seen_grows 0 _ c.args.self.now.passes c.load_at.new.passes turn.journey _ (place_within g.D.Disk.state g.D.Disk.faults c.args.cells.now c.args.self.now c.requires.of c.requires.sound c.args.id c.requires.id)
