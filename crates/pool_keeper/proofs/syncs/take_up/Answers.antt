use Rattle.std.proofs.Common.{[]}
use Rattle.ms_cell.proofs.JournalLaws.{journeys_join, stays_seated}
use Rattle.pool_keeper.proofs.SyncActs.{at_cells_alone}
use Rattle.pool_keeper.proofs.syncs.take_up.Goals as goal

pub turn_to-requires-clause-seated : goal.turn_to-requires-clause-seated
turn_to-requires-clause-seated g c = λ κs within. stays_seated c.args.passes.now.lane c.args.cells.now [] c.args.passes.now.cells c.wait_for.new.passes c.requires.seated.1.cells c.wait_for.ensures.passes

pub returns-clause-passes : goal.returns-clause-passes
returns-clause-passes g c =
    let p = c.args.passes.now in
    at_cells_alone c.args.cells.now c.requires.seated.0 p c.requires.seated.1 c.turn_to.new.passes
    (journeys_join p.lane [] [] p.cells c.wait_for.new.passes c.turn_to.new.passes c.wait_for.ensures.passes c.turn_to.ensures.passes)
