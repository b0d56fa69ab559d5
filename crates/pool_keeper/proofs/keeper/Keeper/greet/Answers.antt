use Rattle.ms_cell.proofs.JournalLaws.{no_journey}
use Rattle.pool_keeper.proofs.keeper.Keeper.greet.Goals as goal

pub returns-in-Some-clause-passes : goal.returns-in-Some-clause-passes
returns-in-Some-clause-passes g c = no_journey c.args.lane c.args.cells.now c.args.passes.now c.requires.seated
