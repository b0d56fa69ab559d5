use Rattle.ms_cell.proofs.Gathering.{fresh_seated}
use Rattle.cell_rows.proofs.Settling.{fresh_settled}
use Rattle.cell_rows.proofs.run_pool.Goals as goal

pub load_all-loaded-requires-clause-seated : goal.load_all-loaded-requires-clause-seated
load_all-loaded-requires-clause-seated g c = fresh_seated 0 c.in_ok-cells.cells c.in_ok-keeper.keeper c.in_ok-keeper.ensures.fresh

pub load_all-loaded-requires-clause-settled : goal.load_all-loaded-requires-clause-settled
load_all-loaded-requires-clause-settled g c = fresh_settled c.in_ok-cells.cells c.in_ok-keeper.keeper c.in_ok-keeper.ensures.fresh
