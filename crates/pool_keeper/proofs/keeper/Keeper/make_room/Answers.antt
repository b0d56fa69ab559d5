use Rattle.pool_keeper.proofs.Renoting.{sound_renoted}
use Rattle.pool_keeper.proofs.keeper.Keeper.make_room.Goals as goal

pub returns-clause-sound : goal.returns-clause-sound
returns-clause-sound g c = sound_renoted g.D.Disk.state g.D.Disk.faults c.args.self.now c.requires.sound c.reserve.new.self c.reserve.ensures.items
