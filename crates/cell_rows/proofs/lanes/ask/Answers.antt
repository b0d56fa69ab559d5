use Rattle.cell_rows.proofs.Holders.{seated_at, closings_at}
use Rattle.cell_rows.proofs.lanes.ask.Goals as goal

pub returns-clause-seated : goal.returns-clause-seated
returns-clause-seated g c = seated_at c.args.lane c.args.passes.now c.grant_at.new.passes _ _ c.grant_at.ensures c.args.cells.now c.requires.seated

pub returns-clause-own : goal.returns-clause-own
returns-clause-own g c = closings_at c.args.lane c.args.passes.now c.grant_at.new.passes _ _ c.grant_at.ensures
