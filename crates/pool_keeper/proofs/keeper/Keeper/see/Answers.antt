use Rattle.std.proofs.Common.{inl}
use Rattle.pool_keeper.proofs.Sound.{seated}
use Rattle.pool_keeper.proofs.Handing.{sound_handed, seen_place, place_within}
use Rattle.pool_keeper.proofs.keeper.Keeper.see.Goals as goal

pub look_at-requires-clause-seated : goal.look_at-requires-clause-seated
look_at-requires-clause-seated g c = (0, seated g.D.Disk.state g.D.Disk.faults c.args.cells.now c.args.self.now c.requires.of c.requires.sound)

pub returns-clause-sound : goal.returns-clause-sound
returns-clause-sound g c =
    let turn = c.look_at.ensures 0 (seated g.D.Disk.state g.D.Disk.faults c.args.cells.now c.args.self.now c.requires.of c.requires.sound) in
    sound_handed g.D.Disk.state g.D.Disk.faults c.args.cells.now c.args.self.now c.requires.of c.requires.sound 1 _ _ c.look_at.new.passes turn.journey (inl turn.answer.quiet)

pub returns-clause-place : goal.returns-clause-place
returns-clause-place g c =
    let turn = c.look_at.ensures 0 (seated g.D.Disk.state g.D.Disk.faults c.args.cells.now c.args.self.now c.requires.of c.requires.sound) in
    seen_place g.D.Disk.state g.D.Disk.faults c.args.cells.now c.args.self.now c.requires.of c.requires.sound _ turn.before turn.note c.look_at.new.passes _
    (place_within g.D.Disk.state g.D.Disk.faults c.args.cells.now c.args.self.now c.requires.of c.requires.sound c.args.id c.requires.id) turn.journey turn.answer.quiet turn.answer.in_memory
