use Rattle.cell_rows.proofs.Holders.{seated_gate, closed_by}
use Rattle.cell_rows.proofs.lanes.try_close.Goals as goal

pub returns-clause-seated : goal.returns-clause-seated
returns-clause-seated g c = seated_gate c.args.lane c.args.passes.now c.close_open_at.new.passes _ c.close_open_at.ensures c.args.cells.now c.requires.seated

pub returns-clause-ok : goal.returns-clause-ok
returns-clause-ok g c = (closed_by c.args.lane c.args.cells.now.opened c.close_open_at.result c.args.passes.now c.close_open_at.new.passes c.close_open_at.ensures).0

pub returns-clause-err : goal.returns-clause-err
returns-clause-err g c = (closed_by c.args.lane c.args.cells.now.opened c.close_open_at.result c.args.passes.now c.close_open_at.new.passes c.close_open_at.ensures).1
