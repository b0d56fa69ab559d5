use Rattle.pool_keeper.proofs.Sound.{seated}
use Rattle.pool_keeper.proofs.Told.{told_settled}
use Rattle.pool_keeper.proofs.keeper.Keeper.tell_all.Goals as goal

pub tell_each-requires-clause-from : goal.tell_each-requires-clause-from
tell_each-requires-clause-from g c = (0, seated g.D.Disk.state g.D.Disk.faults c.args.cells.now c.args.self.now c.requires.of c.requires.sound)

pub tell_each-requires-clause-to : goal.tell_each-requires-clause-to
tell_each-requires-clause-to g c = (c.args.lane, c.requires.seated)

pub returns-clause-settled : goal.returns-clause-settled
returns-clause-settled g c =
    told_settled g.D.Disk.state g.D.Disk.faults c.args.cells.now c.args.self.now c.requires.of c.requires.sound c.args.lane c.args.passes.now c.tell_each.new.to c.requires.seated (c.tell_each.ensures.to c.args.lane c.requires.seated) c.tell_each.ensures.knows c.tell_each.ensures.gate
