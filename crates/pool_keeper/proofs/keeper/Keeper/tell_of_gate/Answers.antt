use Rattle.pool_keeper.proofs.Sound.{seated}
use Rattle.pool_keeper.proofs.keeper.Keeper.tell_of_gate.Goals as goal

pub tell_gate-requires-clause-from : goal.tell_gate-requires-clause-from
tell_gate-requires-clause-from g c = (0, seated g.D.Disk.state g.D.Disk.faults c.args.cells.now c.args.self.now c.requires.of c.requires.sound)
