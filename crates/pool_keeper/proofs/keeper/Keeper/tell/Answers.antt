use Rattle.pool_keeper.proofs.Sound.{seated}
use Rattle.pool_keeper.proofs.keeper.Keeper.tell.Goals as goal

pub tell_at-requires-clause-from : goal.tell_at-requires-clause-from
tell_at-requires-clause-from g c = (0, seated g.D.Disk.state g.D.Disk.faults c.args.cells.now c.args.self.now c.requires.of c.requires.sound)

pub tell_at-requires-clause-to : goal.tell_at-requires-clause-to
tell_at-requires-clause-to g c = (c.args.lane, c.requires.seated)
