use Rattle.std.proofs.Common.{refl}
use Rattle.pool_keeper.proofs.Sound.{seated, sound_still}
use Rattle.pool_keeper.proofs.keeper.Keeper.hear_all.Goals as goal

pub tell_each-requires-clause-from : goal.tell_each-requires-clause-from
tell_each-requires-clause-from g c = (c.args.lane, c.requires.seated)

pub tell_each-requires-clause-to : goal.tell_each-requires-clause-to
tell_each-requires-clause-to g c = (0, seated g.D.Disk.state g.D.Disk.faults c.args.cells.now c.args.self.now c.requires.of c.requires.sound)

pub returns-clause-sound : goal.returns-clause-sound
returns-clause-sound g c =
    let seat = seated g.D.Disk.state g.D.Disk.faults c.args.cells.now c.args.self.now c.requires.of c.requires.sound in
    sound_still g.D.Disk.state g.D.Disk.faults c.args.cells.now c.args.self.now c.requires.of c.requires.sound c.tell_each.new.to c.args.self.now.gathered (c.tell_each.ensures.to 0 seat) refl
